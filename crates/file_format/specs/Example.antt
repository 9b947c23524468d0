-- Document 01's example of a profile file, with the first counted day 0 (document 02).
use Rattle.std.specs.Prelude.{List, [], ◌∷◌, ℕ}

-- header, first counted day, days, cuts
unfoldable pub doc01 : List ℕ
doc01 =
    3 ∷ 0 ∷ 2 ∷ 0 ∷ 18 ∷ 0 ∷ 36 ∷ 0 ∷ 10 ∷ 0 ∷ 0 ∷ 0 ∷ 12 ∷ 0 ∷ 0 ∷ 0
    ∷ 0 ∷ 0
    ∷ 2 ∷ 0 ∷ 6 ∷ 0 ∷ 0 ∷ 0
    ∷ 4 ∷ 0 ∷ 7 ∷ 0 ∷ 0 ∷ 0
    ∷ 4 ∷ 0 ∷ 7 ∷ 0 ∷ 0 ∷ 0
    ∷ 0 ∷ 0 ∷ 0 ∷ 0 ∷ 3 ∷ 0 ∷ 0 ∷ 0
    ∷ 3 ∷ 0 ∷ 0 ∷ 0 ∷ 11 ∷ 0 ∷ 0 ∷ 0 ∷ []
