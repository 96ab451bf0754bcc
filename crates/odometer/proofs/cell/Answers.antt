use Rattle.odometer.proofs.Rounding.{fitting-denominator, double-fits, divisor-fits, sum_fits, divides, rounded}
use Rattle.odometer.proofs.cell.Goals as goal

pub toward-half-requires : goal.toward-half-requires
toward-half-requires c = fitting-denominator c.args.x c.requires.0

pub overflow_mul-result : goal.overflow_mul-result
overflow_mul-result c = let start = c in double-fits start.args.x start.requires.0

pub overflow_add-result : goal.overflow_add-result
overflow_add-result c = let start = c in sum_fits start.args.x start.requires.0 c.toward-half.result (record { sfits = c.toward-half.type_inv }) c.toward-half.ensures

pub overflow_mul-result-2 : goal.overflow_mul-result-2
overflow_mul-result-2 c = let start = c in divisor-fits start.args.x start.requires.0

pub nonzero_div-result : goal.nonzero_div-result
nonzero_div-result c = let start = c in divides start.args.x start.requires.0 c.toward-half.result (record { sfits = c.toward-half.type_inv }) c.toward-half.ensures start.requires.1

pub returns : goal.returns
returns c = let start = c in rounded start.args.x start.requires.0 c.toward-half.result (record { sfits = c.toward-half.type_inv }) c.toward-half.ensures start.requires.1
