-- `check_cuts` meets its contract: none of the first j cuts is refused (`Nowhere`); a turn adds one, or its refusal is the first (`nonzero-here`).
use Prim.Native.Nat.{◌*◌}
use Rattle.theory_lists.specs.First.{nonzero, Nowhere}
use Rattle.file_format.specs.Format.{numbered_at}
use Rattle.c_files.specs.Writing.{numbered_refusal}
use Rattle.c_files.proofs.check_cuts.Given as goal

abbrev pub invariant-loop-j : goal.invariant-loop-j
invariant-loop-j l = Nowhere (nonzero (λ k. numbered_refusal l.days (numbered_at l.cuts (k * 8)))) l.count l.j
