-- `has_bad` meets its contract: no cut below j is bad.
use Prim.Native.Nat.{◌+◌, ◌*◌}
use Rattle.theory_lists.specs.First.{Nowhere}
use Rattle.file_format.specs.Format.{numbered_at}
use Rattle.file_format.specs.Reading.{bad_cut}
use Rattle.file_checks.proofs.has_bad.Given as goal

abbrev pub invariant-loop-j : goal.invariant-loop-j
invariant-loop-j l = Nowhere (λ i. bad_cut (numbered_at l.bytes (l.from + i * 8))) l.count l.j
