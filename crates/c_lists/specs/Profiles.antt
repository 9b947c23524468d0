-- A profile whose lists are byte strings.
use Rattle.std.specs.Prelude.{Bool, cond, ◌&&◌, ◌||◌, List, ℕ, ◌-◌, ◌*◌, eqb, ltb, length}
use Rattle.limits.specs.Limits.{most_days}
use Rattle.session.specs.Profile.{Profile}
use Rattle.session.specs.Opening.{profile}
use Rattle.session.specs.declared.Numbers.{Numbers}
use Rattle.c_lists.specs.Lists.{points_in}

-- a profile as a caller in C hands it over: each list is its bytes
pub record ByteProfile : Type 0 where
  pub numbers : Numbers
  pub floors : List ℕ
  pub ceilings : List ℕ
  pub rises : List ℕ

abbrev pub byte_profile : Numbers → List ℕ → List ℕ → List ℕ → ByteProfile
byte_profile m fs cs rs = record { numbers = m; floors = fs; ceilings = cs; rises = rs }

-- floors and ceilings are n long, and rises n - 1, each list given by its count of bytes
abbrev pub have_lengths : ℕ → ℕ → ℕ → ℕ → Bool
have_lengths n floors ceilings rises = eqb floors (n * 2) && eqb ceilings (n * 2) && eqb rises ((n - 1) * 2)

-- 1: the day count is 0 or over 512; 2: a list of the wrong length; else 0
unfoldable pub byte_counts_refusal : ℕ → ℕ → ℕ → ℕ → ℕ
byte_counts_refusal n floors ceilings rises = cond (eqb n 0 || ltb most_days n) 1 (cond (have_lengths n floors ceilings rises) 0 2)

abbrev pub byte_length_refusal : ByteProfile → ℕ
byte_length_refusal h = byte_counts_refusal h.numbers.days (length h.floors) (length h.ceilings) (length h.rises)

-- the profile of lists that are that long
abbrev pub profile_of : ByteProfile → Profile
profile_of h =
    let n : ℕ = h.numbers.days in
    profile h.numbers (points_in h.floors n) (points_in h.ceilings n) (points_in h.rises (n - 1))
