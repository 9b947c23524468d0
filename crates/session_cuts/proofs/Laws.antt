-- The cuts of a sheet, by its entries.
use mathlib.Core.Path.{◌≡◌}
use Prim.Native.Nat.{ℕ, ◌<◌}
use lib.IntN.{pos}
use lib.ListN.{length, get_or}
use Rattle.theory_lists.specs.ListOf.{length-list_of, get_list_of}
use Rattle.session_cuts.specs.declared.Cut.TheVariants.{DayFloor}
use Rattle.session_cuts.specs.declared.Sheet.{Sheet}
use Rattle.session_cuts.specs.Sheet.{blank, cut_on, cuts_of}

module _ (s : Sheet) where
  pub length-cuts_of : length (cuts_of s) ≡ s.count
  unfolding cuts_of
  length-cuts_of = length-list_of (λ j. (get_or s.entries j blank).cut) s.count

  pub cut_on-cuts_of : (j : ℕ) → j < s.count → cut_on (cuts_of s) j ≡ (get_or s.entries j blank).cut
  unfolding cuts_of
  cut_on-cuts_of j h = get_list_of (λ i. (get_or s.entries i blank).cut) (DayFloor 0 (pos 0)) s.count j h
