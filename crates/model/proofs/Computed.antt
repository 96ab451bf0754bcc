-- All definitions of the model opened at once: a proof by computation says `unfolding computed`.
use Rattle.model.specs.Lists.{filter, any, all, concat_map, total, contains, unique, index_of, below, backwards, present}
use Rattle.model.specs.Kinds.{find, kind_of}
use Rattle.model.specs.Syntax.{bindings, bindings_q, uses, uses_q, levels, levels_ts, levels_q}
use Rattle.model.specs.Encoding.{encode, encode_targets, encode_ranges, encode_query, encode_permit, encode_permits, condition_body, term_body, on_kind, read_condition, starts_range, starts_target, read_ranges, read_targets, read_query, read_permit, read_permits, permits_read, query_of, permits_of}
use Rattle.model.specs.Meaning.{cell, signed, sum, best_from, best, average, aggregate, ordered, assignments, rows_met, same_row, add_row, add_rows, qualifying, answers, holds_with, target_row_with}
use Rattle.model.specs.Catalogue.{read_catalogue, catalogue_read, catalogue_of, value_count, shape_of, attributes_at, stored_at, tuples_of, walk, tuples_at}
use Rattle.model.specs.Search.{search, searches_in, some_searches, row_searches, permit_searches}
use Rattle.model.specs.Permits.{bit, used_of, is_false, applies, bars, guard_of, guards_of, meets, allowed, permitted}
use Rattle.model.specs.Rewriting.{rename, new_number, copy_for, disjunction, new_in, guarded, new_for, rewrite, rewrite_targets, guard_ranges, rewrite_query}
use Rattle.model.specs.Scope.{known_attribute, known_binding, in_scope, range_scope, query_in_scope, bound_once}
use Rattle.model.specs.Checks.{fails10, fails11, fails20, permit_fits, fails21, mask_known, permit_known, fails22, permit_stored, fails23, fails30, fails31, fails32, served, fails33, rewritten_bytes, fails40, keeper_checks, permit_checks, query_checks, guard_checks, shape_checks, ask_checks, evaluate_checks, refusal}
use Rattle.model.specs.Calls.{give, evaluate_unless, evaluate, ask_unless, ask}
use Rattle.model.specs.Demands.{no_aggregate, positive, positive_q, rows_from, included}

unfoldable pub computed : Unit {0}
unfolding filter any all concat_map total contains unique index_of below find kind_of bindings bindings_q uses uses_q levels levels_ts levels_q encode encode_targets encode_ranges encode_query encode_permit condition_body term_body on_kind read_condition starts_range starts_target read_ranges read_targets read_query read_permit read_permits permits_read query_of permits_of cell signed sum best_from best average aggregate ordered holds_with assignments target_row_with present rows_met same_row add_row add_rows qualifying answers read_catalogue catalogue_read catalogue_of value_count shape_of attributes_at stored_at tuples_of walk backwards tuples_at bit used_of is_false applies bars guard_of guards_of meets allowed permitted search searches_in some_searches row_searches permit_searches rename new_number copy_for disjunction new_in guarded new_for rewrite rewrite_targets guard_ranges rewrite_query known_attribute known_binding in_scope range_scope query_in_scope bound_once fails10 fails11 fails20 permit_fits fails21 mask_known permit_known fails22 permit_stored fails23 fails30 fails31 fails32 served fails33 rewritten_bytes fails40 keeper_checks permit_checks query_checks guard_checks shape_checks ask_checks evaluate_checks refusal give evaluate_unless evaluate ask_unless ask encode_permits no_aggregate positive positive_q rows_from included
computed = tt
