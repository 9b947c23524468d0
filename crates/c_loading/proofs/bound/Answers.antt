-- `bound` meets its contract: the field's code, 0 where it is outside the bounds.
use mathlib.Core.Path.{◌≡◌, ap, ◌∙◌}
use Rattle.limits.specs.Limits.{lowest_total, highest_total}
use Rattle.base_codes.specs.Code.{coded}
use Rattle.std.specs.Prelude.{unwrap_or}
use Rattle.base_codes.proofs.Loops.{some-or-zero}
use Rattle.base_codes.proofs.Casts.{coded_seen}
use Rattle.base_little_endian.specs.Fields.{i32_at}
use borrow.Author.Rules.{sfits_of}
use Rattle.c_loading.proofs.bound.Goals as goal
use Rattle.c_loading.proofs.bound.Goals.{After-code}

answer : (c : After-code) → c.code.result ≡ coded lowest_total highest_total (i32_at c.args.bytes.now c.args.place)
answer c =
    coded_seen lowest_total highest_total {z = c.i32_at.result} (sfits_of c.i32_at.type_inv) c.code.ensures ∙ ap (coded lowest_total highest_total) c.i32_at.ensures

pub returns : goal.returns
returns c =
    c.unwrap_or.ensures ∙ ap (λ r. unwrap_or r 0) (answer (goal.at.returns c).After-code) ∙ some-or-zero lowest_total highest_total (i32_at c.args.bytes.now c.args.place)
