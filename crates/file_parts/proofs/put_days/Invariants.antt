-- `put_days` meets its contract: the bytes of k days are stored (`Stored`), six to a day.
use Prim.Native.Nat.{◌+◌, ◌*◌}
use Rattle.base_codes.specs.Code.{on}
use Rattle.file_format.specs.Format.{day_bytes}
use Rattle.theory_lists.specs.Rows.{Stored}
use Rattle.file_parts.proofs.put_days.Given as goal

abbrev pub invariant-loop-k : goal.invariant-loop-k
invariant-loop-k l = Stored (λ j. day_bytes (on l.floors j) (on l.ceilings j) (on l.rises j)) l.days 18 l.initial.out l.k (18 + l.k * 6) l.out
