-- The writer's answer and output where it refuses nothing.
use mathlib.Core.Path.{◌≡◌, refl, sym, ◌∙◌}
use mathlib.Core.Bool.{cond}
use mathlib.Core.List.{List}
use Prim.Native.Nat.{ℕ, zero, suc}
use native.Mathlib.Omega.{arith}
use lib.Dec.{eqb}
use lib.ListN.{length, take}
use lib.Seq.{take-append_seam}
use borrow.Author.Tests.{eq-eqb, ne_eqb}
use Rattle.theory_lists.specs.Checks.{then_zero}
use Rattle.theory_lists.specs.Front.{in_front}
use Rattle.session.specs.Profile.{Profile}
use Rattle.session_cuts.specs.declared.Cut.{Cut}
use Rattle.file_format.specs.Format.{file_length, file}
use Rattle.file_format.proofs.Parts.{length-file}
use Rattle.file_format.specs.Writing.{early_writing, writing_refusal}
use Rattle.file_writing.specs.Writing.{WriteAnswer, write_answer, output}

-- the number that stands in an answer
pub answered : (number long : ℕ) → (cond {A = WriteAnswer} (eqb number 0) (record { refusal = 0; length = long }) (record { refusal = number; length = 0 })).refusal ≡ number
answered zero long = refl
answered (suc number) long = rw (ne_eqb (suc number) 0 (λ e. omega arith)) refl

module _ (p : Profile) (cs : List Cut) where
  pub answer-refusal : (room : ℕ) → (write_answer p cs room).refusal ≡ writing_refusal p cs room
  unfolding write_answer
  answer-refusal room = answered (writing_refusal p cs room) (file_length p.days (length cs))

  module _ (out : List ℕ) (e : (write_answer p cs (length out)).refusal ≡ 0) where
    none : writing_refusal p cs (length out) ≡ 0
    none = sym (answer-refusal (length out)) ∙ e

    pub written_passed : early_writing p cs ≡ 0
    unfolding writing_refusal
    written_passed = (then_zero (early_writing p cs) _ none).0

    pub written-length : (write_answer p cs (length out)).length ≡ length (file p cs)
    unfolding write_answer
    written-length = rw (eq-eqb (writing_refusal p cs (length out)) 0 none) (sym (length-file p cs))

    pub written-front : output p cs out ≡ in_front (file p cs) out
    unfolding output
    written-front = rw (eq-eqb (writing_refusal p cs (length out)) 0 none) refl

    -- what stands at the front
    pub written-file : take (write_answer p cs (length out)).length (output p cs out) ≡ file p cs
    unfolding in_front
    written-file = rw (written-length, written-front) (take-append_seam (file p cs) _)
