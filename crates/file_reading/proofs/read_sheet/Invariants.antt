-- `read_sheet` meets its contract: j entries are stored.
use Prim.Native.Nat.{◌+◌, ◌*◌}
use Rattle.theory_lists.specs.Filled.{Filled}
use Rattle.file_format.specs.Format.{numbered_at, known}
use Rattle.file_reading.proofs.read_sheet.Given as goal

abbrev pub invariant-loop-j : goal.invariant-loop-j
invariant-loop-j l = Filled (λ i. record { cut = known (numbered_at l.bytes (l.from + i * 8)) }) l.count l.j l.initial.entries l.entries
