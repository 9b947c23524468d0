-- Document 01: what the file's writer refuses, in its order.
use Rattle.std.specs.Prelude.{cond, List, ℕ, eqb, ltb, length}
use Rattle.limits.specs.Limits.{most_cuts}
use Rattle.theory_lists.specs.First.{first_nonzero}
use Rattle.session.specs.Profile.{Profile}
use Rattle.session.specs.Opening as Opening
use Rattle.session_cuts.specs.declared.Cut.{Cut}
use Rattle.session_cuts.specs.Sheet.{cut_on}
use Rattle.session_cutting.specs.Cutting.{malformed}
use Rattle.file_format.specs.Format.{file_length}

-- each cut in order as cutting does: the first refusal, or 0
abbrev pub cuts_refusal : ℕ → List Cut → ℕ
cuts_refusal n cs = first_nonzero (λ j. malformed n (cut_on cs j)) (length cs)

-- 1 for the cuts, then 1, 2, 3, 4, 5, 6, 13 as opening does, then the cuts: the first refusal of writing before the output's length that applies, or 0
unfoldable pub early_writing : Profile → List Cut → ℕ
early_writing p cs =
    cond (ltb most_cuts (length cs)) 1
    (cond (eqb (Opening.early_opening p) 0) (cuts_refusal p.days cs) (Opening.early_opening p))

-- the first refusal of writing that applies, or 0, with an output of that length: 2 where the output is too short
unfoldable pub writing_refusal : Profile → List Cut → ℕ → ℕ
writing_refusal p cs room =
    cond (eqb (early_writing p cs) 0) (cond (ltb room (file_length p.days (length cs))) 2 0) (early_writing p cs)
