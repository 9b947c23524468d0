-- The checks of opening, by what the code found, and opening once they are passed.
use mathlib.Core.Path.{◌≡◌, refl, ap, sym, ◌∙◌}
use mathlib.Core.Bool.{Bool, true, false, cond, not, ◌||◌, and-eq-true_iff}
use mathlib.Core.List.{List, [], ◌∷◌}
use Prim.Native.Nat.{ℕ, zero, suc, ◌-◌, ◌<◌}
use native.Mathlib.Omega.{arith}
use native.Mathlib.Decide.{dec_lt}
use lib.IntN.{ℤ}
use lib.Dec.{eqb, ltb}
use lib.ListN.{length}
use lib.Signed.{lt_z}
use borrow.Author.Tests.{lt-ltb, le-ltb, eq-eqb, ne_eqb, not-false}
use Rattle.limits.specs.Limits.{lowest_point, highest_point, lowest_rise, highest_rise, lowest_total}
use Rattle.theory_lists.specs.Sum.{at}
use Rattle.theory_lists.specs.Lent.{list_left, list-filled}
use Rattle.theory_lists.specs.Written.{written}
use Rattle.base_codes.specs.Code.{within, code, on, every, code_or_zero}
use Rattle.base_codes.proofs.Every.{not_both, codes-inside}
use Rattle.base_codes.proofs.Order.{less_test}
use Rattle.base_codes.specs.declared.CodedNumbers.{CodedNumbers}
use Rattle.theory_method.specs.Filter.{Box, Tight, InBounds, all_counted, first_crossed, zeros}
use Rattle.theory_method.specs.Stages.{Crossing}
use Rattle.theory_method.proofs.Stages.{crossing}
use Rattle.tighten_filtering.specs.Boxed.{boxed}
use Rattle.session.specs.Profile.{Profile}
use Rattle.session.specs.Opening.{box_in, narrowed, numbers_of, opened_with, crossed, early_opening, opened, refused_with, codes, bad_count, bad_length, bad_point, bad_rise, bad_total, bad_range, bad_first}
use Rattle.session.specs.Stages.{lengths_of, coded_numbers, not_coded, coded_with, coded_profile, coded_list, codes_crossed, range_refusal, no_ranges, ranges_with, ranges_opened, session_with, opened_codes, CodedProfile}
use Rattle.session.proofs.Stages.{judged}
use Rattle.session.proofs.Entered.{Entered, Sized, sized, Unrefused, counting_all, passed_all, codes-bounds, or-true, floor_less, ceiling_less, lowest_less, highest_less}

-- ---- a floor above its ceiling

crossed-yes : (fs cs : List ℤ) (k : ℕ) → k < length fs → k < length cs → lt_z (on cs k) (on fs k) ≡ true → crossed fs cs ≡ true
crossed-yes [] cs k h l e = absurd (omega arith)
crossed-yes (f ∷ fs) [] k h l e = absurd (omega arith)
crossed-yes (f ∷ fs) (c ∷ cs) zero h l e = ap (λ b. b || crossed fs cs) e
crossed-yes (f ∷ fs) (c ∷ cs) (suc k) h l e = or-true (lt_z c f) (crossed fs cs) (crossed-yes fs cs k (omega arith) (omega arith) e)

crossed_no : (fs cs : List ℤ) → ((k : ℕ) → k < length fs → lt_z (on cs k) (on fs k) ≡ false) → crossed fs cs ≡ false
crossed_no [] cs h = refl
crossed_no (f ∷ fs) [] h = refl
crossed_no (f ∷ fs) (c ∷ cs) h = ap (λ b. b || crossed fs cs) (h 0 (omega arith)) ∙ crossed_no fs cs (λ k l. h (suc k) (omega arith))

module _ (p : Profile) (d : Entered p) where
  abbrev fs : List ℕ
  fs = codes lowest_point p.floors p.days

  abbrev cs : List ℕ
  cs = codes lowest_point p.ceilings p.days

  day_test : (k : ℕ) → k < p.days → lt_z (on p.ceilings k) (on p.floors k) ≡ ltb (at cs k) (at fs k)
  day_test k h = less_test (on p.ceilings k) (on p.floors k) (at cs k) (at fs k) 1000 (ceiling_less p d k h) (floor_less p d k h)

  crossed_test : crossed p.floors p.ceilings ≡ ltb (first_crossed (at fs) (at cs) p.days) p.days
  crossed_test = go (dec_lt (first_crossed (at fs) (at cs) p.days) p.days) (crossing (at fs) (at cs) p.days)
    where
      go : {r : ℕ} → Dec (r < p.days) → Crossing (at fs) (at cs) p.days r → crossed p.floors p.ceilings ≡ ltb r p.days
      go {r} (yes h) x =
          crossed-yes p.floors p.ceilings r (omega (arith, d.sized.floors)) (omega (arith, d.sized.ceilings)) (day_test r h ∙ lt-ltb (at cs r) (at fs r) (x.here h))
          ∙ sym (lt-ltb r p.days h)
      go {r} (no h) x =
          crossed_no p.floors p.ceilings (λ k l. day_test k (omega (arith, d.sized.floors)) ∙ le-ltb (at cs k) (at fs k) (x.before k (omega (arith, d.sized.floors))))
          ∙ sym (le-ltb r p.days (omega arith))

  range_test : bad_range p ≡ codes_crossed fs cs p.days (code lowest_total p.lowest) (code lowest_total p.highest)
  range_test = cc (crossed_test, less_test p.highest p.lowest (code lowest_total p.highest) (code lowest_total p.lowest) 512000 (highest_less p d) (lowest_less p d))

-- ---- 8, or a session

tight_session : (b : Box) (t : Tight) → session_with b (ranges_with t) ≡ opened_with b t
tight_session b t = go t.found refl
  where
    go : (found : Bool) → t.found ≡ found → session_with b (ranges_with t) ≡ opened_with b t
    go true e = rw e refl
    go false e = rw e refl

-- ---- 1 to 5

-- each by what its test found
abbrev ladder : CodedNumbers → Bool → Bool → Bool → Bool → Bool → CodedProfile
ladder m a b c d t = cond a (not_coded 1) (cond b (not_coded 2) (cond c (not_coded 3) (cond d (not_coded 4) (cond t (not_coded 5) (record { refusal = 0; numbers = m })))))

all-false : (m : CodedNumbers) (a b c d t : Bool) → (ladder m a b c d t).refusal ≡ 0
    → (a ≡ false) × (b ≡ false) × (c ≡ false) × (d ≡ false) × (t ≡ false) × ((ladder m a b c d t).numbers ≡ m)
all-false m true b c d t e = absurd (omega arith)
all-false m false true c d t e = absurd (omega arith)
all-false m false false true d t e = absurd (omega arith)
all-false m false false false true t e = absurd (omega arith)
all-false m false false false false true e = absurd (omega arith)
all-false m false false false false false e = (refl, refl, refl, refl, refl, refl)

same_ladder : (m : CodedNumbers) (a b c d t : Bool) (x : ℕ)
    → cond a 1 (cond b 2 (cond c 3 (cond d 4 (cond t 5 x)))) ≡ cond (eqb (ladder m a b c d t).refusal 0) x (ladder m a b c d t).refusal
same_ladder m true b c d t x = refl
same_ladder m false true c d t x = refl
same_ladder m false false true d t x = refl
same_ladder m false false false true t x = refl
same_ladder m false false false false true x = refl
same_ladder m false false false false false x = refl

module _ (p : Profile) where
  -- 1 and 2 refuse, and leave the arrays
  pub list-kept : (low high : ℤ) (zs : List ℤ) (l : List ℕ) {r : ℕ} → r ≡ lengths_of p → (r ≡ 0 → ⊥) → l ≡ coded_list (lengths_of p) low high zs l
  list-kept low high zs l e apart = rw (← e) (sym (list_left _ (λ k. code_or_zero low high (on zs k)) (length zs) l apart))

  pub lengths_refused : (r : ℕ) → r ≡ lengths_of p → (r ≡ 0 → ⊥) → not_coded r ≡ coded_profile p
  unfolding coded_profile
  lengths_refused r e apart = go (bad_count p) (bad_length p) e
    where
      go : (a b : Bool) → r ≡ cond a 1 (cond b 2 0) → not_coded r ≡ cond a (not_coded 1) (cond b (not_coded 2) (coded_with (numbers_of p) (bad_point p) (bad_rise p)))
      go true b h = rw h refl
      go false true h = rw h refl
      go false false h = absurd (apart h)

  -- 1 and 2 are passed
  whole : lengths_of p ≡ 0 → (bad_count p ≡ false) × (bad_length p ≡ false)
  whole e = go (bad_count p) (bad_length p) e
    where
      go : (a b : Bool) → cond {A = ℕ} a 1 (cond b 2 0) ≡ 0 → (a ≡ false) × (b ≡ false)
      go true b h = absurd (omega arith)
      go false true h = absurd (omega arith)
      go false false h = (refl, refl)

  pub sizes : lengths_of p ≡ 0 → Sized p
  sizes e = sized p (whole e).0 (whole e).1

  module _ (e : lengths_of p ≡ 0) where
    pub list-coded : (low high : ℤ) (zs : List ℤ) (l : List ℕ) {out : List ℕ} → out ≡ written (λ k. code_or_zero low high (on zs k)) (length zs) l
        → out ≡ coded_list (lengths_of p) low high zs l
    list-coded low high zs l h = h ∙ sym (list-filled (lengths_of p) (λ k. code_or_zero low high (on zs k)) (length zs) l e)

    numbers-coded : coded_with (numbers_of p) (bad_point p) (bad_rise p) ≡ coded_profile p
    unfolding coded_profile
    numbers-coded = rw ((whole e).0, (whole e).1)

    -- whether a floor or a ceiling is outside its bounds is known, and whether a rise is
    pub lists_told : {point rise : Bool} {r : CodedProfile} → r ≡ coded_with (numbers_of p) point rise
        → point ≡ (not (every (within lowest_point highest_point) p.floors) || not (every (within lowest_point highest_point) p.ceilings)) → rise ≡ bad_rise p → r ≡ coded_profile p
    lists_told {point} h e t =
        let told : point ≡ bad_point p = e ∙ sym (not_both (every (within lowest_point highest_point) p.floors) (every (within lowest_point highest_point) p.ceilings)) in
        h ∙ (rw (told, t) numbers-coded)

  -- the checks before 8, by what 1 to 5 say
  pub early : early_opening p ≡ cond (eqb (coded_profile p).refusal 0) (cond (bad_range p) 6 (cond (bad_first p) 13 0)) (coded_profile p).refusal
  unfolding early_opening coded_profile coded_with
  early = same_ladder (coded_numbers (numbers_of p)) (bad_count p) (bad_length p) (bad_point p) (bad_rise p) (bad_total p) (cond (bad_range p) 6 (cond (bad_first p) 13 0))

  -- 1 to 5 are passed, and the numbers are coded
  pub all_passed : (coded_profile p).refusal ≡ 0 → Unrefused p × ((coded_profile p).numbers ≡ coded_numbers (numbers_of p))
  unfolding coded_profile coded_with
  all_passed e =
      let f = all-false (coded_numbers (numbers_of p)) (bad_count p) (bad_length p) (bad_point p) (bad_rise p) (bad_total p) e in
      (record { count = f.0; lengths = f.1; points = f.2; rises = f.3; totals = f.4 }, f.5)

  module _ (u : Unrefused p) where
    codes_test : bad_range p ≡ codes_crossed (codes lowest_point p.floors p.days) (codes lowest_point p.ceilings p.days) p.days (code lowest_total p.lowest) (code lowest_total p.highest)
    codes_test = range_test (counting_all p) (passed_all p u)

    lengths_right : lengths_of p ≡ 0
    lengths_right = rw (u.count, u.lengths)

    -- the codes of a list are stored
    list_stored : (low high : ℤ) (zs : List ℤ) (n : ℕ) → length zs ≡ n → every (within low high) zs ≡ true → coded_list (lengths_of p) low high zs zeros ≡ codes low zs n
    list_stored low high zs n e h =
        list-filled (lengths_of p) (λ k. code_or_zero low high (on zs k)) (length zs) zeros lengths_right ∙ codes-inside low high zs zeros h ∙ ap (codes low zs) e

    codes-opened : opened_codes (box_in p) ≡ opened p
    unfolding opened_codes ranges_opened opened early_opening
    codes-opened =
        rw (u.count, u.lengths, u.points, u.rises, u.totals, sym codes_test)
        (go (bad_range p) (bad_first p))
      where
        go : (x y : Bool)
            → session_with (box_in p) (cond x (no_ranges 6 (box_in p).floors (box_in p).ceilings) (cond y (no_ranges 13 (box_in p).floors (box_in p).ceilings) (ranges_with (narrowed p))))
            ≡ cond (eqb (cond x 6 (cond y 13 0)) 0) (opened_with (box_in p) (narrowed p)) (refused_with (cond x 6 (cond y 13 0)))
        go true y = refl
        go false true = refl
        go false false = tight_session (box_in p) (narrowed p)

-- ---- a profile by what coding gave, and what its arrays hold

pub record CodedArrays (p : Profile) (fs cs rs : List ℕ) (r : CodedProfile) : Type 0 where
  pub answer : r ≡ coded_profile p
  pub floors : fs ≡ coded_list (lengths_of p) lowest_point highest_point p.floors zeros
  pub ceilings : cs ≡ coded_list (lengths_of p) lowest_point highest_point p.ceilings zeros
  pub rises : rs ≡ coded_list (lengths_of p) lowest_rise highest_rise p.rises zeros

module _ {p : Profile} {fs cs rs : List ℕ} {r : CodedProfile} (d : CodedArrays p fs cs rs r) where
  module _ (h : (r.refusal ≡ 0 → ⊥)) where
    pub early_refused : r.refusal ≡ early_opening p
    early_refused = rw (early p, ← d.answer, ne_eqb r.refusal 0 h)

    pub all-refused : refused_with r.refusal ≡ opened p
    unfolding opened
    all-refused = rw (← early_refused, ne_eqb r.refusal 0 h)

  module _ (h : r.refusal ≡ 0) where
    passes : Unrefused p × ((coded_profile p).numbers ≡ coded_numbers (numbers_of p))
    passes = all_passed p (rw d.answer at h)

    same : boxed fs cs rs r.numbers ≡ box_in p
    same =
        let u = passes.0 in
        let w = sizes p (lengths_right p u) in
        let points = (and-eq-true_iff (every (within lowest_point highest_point) p.floors) (every (within lowest_point highest_point) p.ceilings)).0 (not-false _ u.points) in
        let f = d.floors ∙ list_stored p u lowest_point highest_point p.floors p.days w.floors points.0 in
        let c = d.ceilings ∙ list_stored p u lowest_point highest_point p.ceilings p.days w.ceilings points.1 in
        let s = d.rises ∙ list_stored p u lowest_rise highest_rise p.rises (p.days - 1) w.rises (not-false _ u.rises) in
        let n = ap (λ x. x.numbers) d.answer ∙ passes.1 in
        rw (f, c, s, n)

    pub days-kept : r.numbers.days ≡ p.days
    days-kept = ap (λ b. b.days) same

    pub in_bounds : InBounds (all_counted (boxed fs cs rs r.numbers))
    in_bounds =
        let e : all_counted (boxed fs cs rs r.numbers) ≡ box_in (counting_all p) = ap (λ b. all_counted b) same in
        rw e (codes-bounds (counting_all p) (passed_all p passes.0))

    pub all-opened : opened_codes (boxed fs cs rs r.numbers) ≡ opened p
    all-opened = rw same (codes-opened p passes.0)

    pub early_range : {days : Bool} {x : ℕ} → days ≡ ltb (first_crossed (at fs) (at cs) r.numbers.days) r.numbers.days → x ≡ range_refusal days r.numbers → x ≡ early_opening p
    early_range told asked =
        let e = judged fs cs rs r.numbers told asked ∙ ap judge same in
        rw (early p, ← d.answer, eq-eqb r.refusal 0 h, codes_test p passes.0) e
      where
        judge : Box → ℕ
        judge b = cond (codes_crossed b.floors b.ceilings b.days b.lowest b.highest) 6 (cond (not (ltb b.first b.days)) 13 0)
