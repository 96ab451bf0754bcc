-- The limits of document 01, in one place: the definitions read them from one value, `limits`.
use Rattle.std.specs.Prelude.{ℕ}

-- of a query
pub record Limits : Type 0 where
  pub bytes : ℕ
  pub nesting : ℕ
  pub bound : ℕ
  pub ranges : ℕ
  pub targets : ℕ

-- of the catalogue, of the permit list and one permit of it, and of a query that is asked or put to the plain evaluator
pub record AllLimits : Type 0 where
  pub relations : ℕ
  pub attributes : ℕ
  pub rows : ℕ
  pub list-bytes : ℕ
  pub permits : ℕ
  pub permit-bytes : ℕ
  pub permit-nesting : ℕ
  pub permit-bound : ℕ
  pub permit-variables : ℕ
  pub asked : Limits
  pub plain : Limits

abbrev pub limits : AllLimits
limits =
    record {
      relations = 16;
      attributes = 16;
      rows = 1024;
      list-bytes = 2048;
      permits = 8;
      permit-bytes = 256;
      permit-nesting = 16;
      permit-bound = 3;
      permit-variables = 4;
      asked = record { bytes = 1024; nesting = 32; bound = 8; ranges = 4; targets = 8 };
      plain = record { bytes = 17216; nesting = 64; bound = 200; ranges = 4; targets = 8 };
    }
