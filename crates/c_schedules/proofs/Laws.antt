-- What writing and inspecting by a session's bytes give, by what their tests found.
use mathlib.Core.Path.{◌≡◌, refl, ap, sym, ◌∙◌}
use mathlib.Core.Bool.{Bool, true, false, ◌&&◌}
use mathlib.Core.List.{List}
use Prim.Native.Nat.{ℕ, ◌*◌, ◌≤◌, ◌<◌}
use native.Mathlib.Omega.{arith}
use native.Mathlib.Decide.{dec_lt}
use lib.IntN.{ℤ, pos}
use lib.ListN.{length}
use lib.Seq.{sets}
use borrow.Author.Tests.{eq-eqb, ne_eqb, lt-ltb, le-ltb}
use Rattle.limits.specs.Limits.{lowest_point, lowest_total, lowest_setpoint, highest_setpoint}
use Rattle.theory_lists.specs.Sum.{at}
use Rattle.theory_lists.specs.ListOf.{length-list_of, get_list_of}
use Rattle.theory_lists.specs.Written.{written}
use Rattle.theory_method.specs.Filter.{box, InBounds, zeros}
use Rattle.base_codes.specs.Code.{within, decoded, on, every, code_or_zero}
use Rattle.base_codes.proofs.Every.{every_on}
use Rattle.base_codes.proofs.Offset.{Less}
use Rattle.session.specs.Showing.{SessionInBounds}
use Rattle.session.specs.declared.Session.{Session}
use Rattle.schedule_raising.specs.Raising.{raised_to}
use Rattle.schedule_writing.specs.Writing.{day_write_refusal, levels_through}
use Rattle.schedule_writing.specs.Stages.{ValueChecked, refused_as, taken, checked, day_checked}
use Rattle.schedule_writing.proofs.Levels.{Standing}
use Rattle.schedule_writing.proofs.Stages.{present-bounds, DayTaken, TotalTaken, day_asks, day_standing, day-refusal, total_asks, total_standing, total-refusal}
use Rattle.schedule_inspection.specs.Inspecting.{Finding, refused, judged}
use Rattle.schedule_inspection.specs.Stages.{judged_codes}
use Rattle.schedule_inspection.proofs.Stages.{spent-refused, unspent-judged}
use Rattle.schedule_inspection.proofs.Bridge.{setpoint_codes, judged-codes}
use Rattle.c_lists.specs.Lists.{is_long, point_at, points_in, point_bytes, lent_points}
use Rattle.c_lists.proofs.Laws.{points_left, points_front, points_filled}
use Rattle.c_layout.specs.Layout.{session_bytes, decoding}
use Rattle.c_layout.proofs.Inverse.{decoding_in_bounds}
use Rattle.c_sessions.specs.Sessions.{is_session}
use Rattle.c_schedules.specs.Schedules.{refusal_for, setpoint_for, write_refusal, inspected_over}
use Rattle.c_schedules.specs.Stages.{checked_for, CodeFits, levels_for}
use Rattle.c_schedules.specs.declared.Subject.{Subject}
use Rattle.c_schedules.specs.declared.Subject.TheVariants.{Day, Total}

-- ---- check_day and check_total: what was read is the session's

module _ (s : Session) (day : ℕ) (value : ℤ) where
  pub day_missing : s.days ≤ day → refused_as 7 ≡ checked_for s (Day day) value
  day_missing h = rw (le-ltb day s.days h)

  day_there : day < s.days → day_checked s day value ≡ checked_for s (Day day) value
  day_there h = rw (lt-ltb day s.days h)

  pub day-read : day < s.days → {floor ceiling : ℕ} {spent : Bool} {q : ValueChecked} → (floor ≡ at s.present.floors day) × (ceiling ≡ at s.present.ceilings day) × (spent ≡ s.spent)
      → q ≡ checked lowest_point floor ceiling spent value → q ≡ checked_for s (Day day) value
  day-read h r e = (rw (r.0, r.1, r.2) at e) ∙ day_there h

pub total-read : (s : Session) (value : ℤ) {lowest highest : ℕ} {spent : Bool} {q : ValueChecked} → (lowest ≡ s.present.lowest) × (highest ≡ s.present.highest) × (spent ≡ s.spent)
    → q ≡ checked lowest_total lowest highest spent value → q ≡ checked_for s Total value
total-read s value r e = rw (r.0, r.1, r.2) at e

-- ---- a value that was checked

-- the number is that of writing into a list that is n long
refusal_for_lem : (s : Session) (subject : Subject) (value : ℤ) → (checked_for s subject value).refusal ≡ refusal_for s subject value
unfolding day_write_refusal
refusal_for_lem s (Day day) value = go (dec_lt day s.days)
  where
    go : Dec (day < s.days) → (checked_for s (Day day) value).refusal ≡ day_write_refusal s day value s.days
    go (yes h) = ap (λ q. q.refusal) (sym (day_there s day value h)) ∙ day-refusal s value refl day h refl
    go (no h) = let l : s.days ≤ day = omega arith in rw (le-ltb day s.days l, eq-eqb s.days s.days refl)
refusal_for_lem s Total value = total-refusal s value refl refl

-- levels whose points are f stand on the first n places of an array
pub record PointsStanding (f : ℕ → ℤ) (n : ℕ) (out : List ℕ) : Type 0 where
  pub here : (k : ℕ) → k < n → decoded lowest_point (at out k) ≡ f k
  pub small : (k : ℕ) → k < n → at out k ≤ 5000

points_of_lem : {x : ℕ → ℕ} {n : ℕ} {out : List ℕ} → Standing x n out → PointsStanding (λ k. decoded lowest_point (x k)) n out
points_of_lem d = record { here = λ k h. ap (decoded lowest_point) (d.here k h); small = d.small }

-- a value that is not refused, and its code
pub record Taken (s : Session) (subject : Subject) (value : ℤ) (code : ℕ) : Type 0 where
  pub bounds : SessionInBounds s
  pub right : taken code ≡ checked_for s subject value

module _ {s : Session} {value : ℤ} {code : ℕ} where
  day-taken : (day : ℕ) → Taken s (Day day) value code → DayTaken s day value code
  day-taken day t = go (dec_lt day s.days)
    where
      go : Dec (day < s.days) → DayTaken s day value code
      go (yes h) = record { bounds = t.bounds; known = h; right = t.right ∙ sym (day_there s day value h) }
      go (no h) =
          let l : s.days ≤ day = omega arith in
          let z : 7 ≡ 0 = ap (λ c. c.refusal) (day_missing s day value l ∙ sym t.right) in
          absurd (omega (arith, z))

  total-taken : Taken s Total value code → TotalTaken s value code
  total-taken t = record { bounds = t.bounds; right = t.right }

  -- its code is what writing asks for, and the levels that are written are the schedule's
  pub code_fits : (subject : Subject) → Taken s subject value code → CodeFits s subject code
  code_fits (Day day) t = let a = day_asks (day-taken day t) in (a.1, a.2)
  code_fits Total t = (total_asks (total-taken t)).highest

  pub points_standing : (subject : Subject) → Taken s subject value code → {out : List ℕ} → out ≡ written (levels_for s subject code) s.days s.present.floors
      → PointsStanding (setpoint_for s subject value) s.days out
  points_standing (Day day) t e = points_of_lem (day_standing (day-taken day t) e)
  points_standing Total t e = points_of_lem (total_standing (total-taken t) e)

-- ---- load_levels: what is loaded from the bytes is the session's

pub record Loaded (s : Session) (n from : ℕ) (rs fs cs : List ℕ) : Type 0 where
  pub bounds : SessionInBounds s
  pub days : n ≡ s.days
  pub first : from ≡ s.first
  pub rises : rs ≡ s.rises
  pub floors : fs ≡ s.present.floors
  pub ceilings : cs ≡ s.present.ceilings

pub loads : (b : List ℕ) {n from : ℕ} {rs fs cs : List ℕ} → n ≡ (decoding b).days → from ≡ (decoding b).first
    → (rs ≡ (decoding b).rises) × ((fs ≡ (decoding b).present.floors) × (cs ≡ (decoding b).present.ceilings)) → Loaded (decoding b) n from rs fs cs
loads b d f e = record { bounds = decoding_in_bounds b; days = d; first = f; rises = e.0; floors = e.1.0; ceilings = e.1.1 }

module _ {s : Session} {n from : ℕ} {rs fs cs : List ℕ} (d : Loaded s n from rs fs cs) {subject : Subject} (code : ℕ) (fits : CodeFits s subject code) where
  module _ (day : ℕ) (e : subject ≡ Day day) {lowest : ℕ} (l : lowest ≡ s.present.lowest) where
    pub day_loaded : InBounds (box fs cs rs n from 0 lowest) × (day < n) × (code ≤ 5000)
    day_loaded =
        let f : CodeFits s (Day day) code = rw e at fits in
        rw (d.days, d.first, d.rises, d.floors, d.ceilings, l) (present-bounds d.bounds d.bounds.present.lowest, f.0, f.1)

    pub day_levels_lem : {out : List ℕ} → out ≡ written (levels_through fs cs rs n from lowest day code) n fs → out ≡ written (levels_for s subject code) s.days s.present.floors
    day_levels_lem w = rw e (rw (d.days, d.first, d.rises, d.floors, d.ceilings, l) at w)

  module _ (e : subject ≡ Total) where
    pub total_loaded : InBounds (box fs cs rs n from 0 code)
    total_loaded =
        let f : CodeFits s Total code = rw e at fits in
        rw (d.days, d.first, d.rises, d.floors, d.ceilings) (present-bounds d.bounds f)

    pub total_levels_lem : {out : List ℕ} → out ≡ written (raised_to fs cs rs n from code) n fs → out ≡ written (levels_for s subject code) s.days s.present.floors
    total_levels_lem w = rw e (rw (d.days, d.first, d.rises, d.floors, d.ceilings) at w)

-- ---- the lengths

-- the session's bytes and the list are as long as asked
unfoldable pub both : List ℕ → List ℕ → Bool
both b l = is_session b && is_long l (decoding b).days

pub no_session : (b l : List ℕ) → (length b ≡ session_bytes → ⊥) → both b l ≡ false
unfolding both
no_session b l h = rw (ne_eqb (length b) session_bytes h) refl

module _ (b l : List ℕ) {n : ℕ} (h : length b ≡ session_bytes) (d : n ≡ (decoding b).days) where
  pub no_list : (length l ≡ n * 2 → ⊥) → both b l ≡ false
  unfolding both
  no_list e = rw (eq-eqb (length b) session_bytes h, ← d) (ne_eqb (length l) (n * 2) e)

  pub session-and-list : length l ≡ n * 2 → both b l ≡ true
  unfolding both
  session-and-list e = rw (eq-eqb (length b) session_bytes h, ← d) (eq-eqb (length l) (n * 2) e)

-- ---- write

module _ (b : List ℕ) (subject : Subject) (value : ℤ) (l : List ℕ) where
  -- what is given, and the list afterwards
  abbrev Writes : ℕ → List ℕ → Type 0
  Writes r out = (r ≡ write_refusal b subject value l) × (out ≡ lent_points r (setpoint_for (decoding b) subject value) (decoding b).days l)

  pub write_unread : both b l ≡ false → Writes 2 l
  unfolding both write_refusal
  write_unread e = (rw e refl, sym (points_left 2 _ _ l (λ z. absurd (omega arith))))

  module _ (right : both b l ≡ true) where
    number : {q : ValueChecked} → q ≡ checked_for (decoding b) subject value → q.refusal ≡ write_refusal b subject value l
    unfolding both write_refusal
    number e = rw right (ap (λ c. c.refusal) e ∙ refusal_for_lem (decoding b) subject value)

    pub write-refused : {refusal : ℕ} → refused_as refusal ≡ checked_for (decoding b) subject value → (refusal ≡ 0 → ⊥) → Writes refusal l
    write-refused {refusal} e h = (number e, sym (points_left refusal _ _ l h))

    -- the points of the levels are stored
    pub write-all : {code : ℕ} → taken code ≡ checked_for (decoding b) subject value → {n : ℕ} → n ≡ (decoding b).days → length l ≡ n * 2 → {levels out : List ℕ}
        → PointsStanding (setpoint_for (decoding b) subject value) (decoding b).days levels → out ≡ sets l 0 (point_bytes (λ k. decoded lowest_point (at levels k)) n) → Writes 0 out
    write-all e d long p w = (
      number e,
      points_front (setpoint_for (decoding b) subject value) _ (decoding b).days l p.here (omega arith) (rw d at w) ∙ sym (points_filled 0 _ _ l refl),
    )

-- ---- judge_points and inspect

-- the first n points of a list
module _ (l : List ℕ) (n : ℕ) where
  points_long : length (points_in l n) ≡ n
  unfolding points_in
  points_long = length-list_of (point_at l) n

  point_at_lem : (k : ℕ) → k < n → on (points_in l n) k ≡ point_at l k
  unfolding points_in
  point_at_lem = get_list_of (point_at l) (pos 0) n

  -- and their codes
  points_coded : {xs : List ℕ} → n ≤ 512 → every (within lowest_setpoint highest_setpoint) (points_in l n) ≡ true
      → xs ≡ written (λ k. code_or_zero lowest_setpoint highest_setpoint (point_at l k)) n zeros → (k : ℕ) → k < n → Less (on (points_in l n) k) (at xs k) 32768
  points_coded few inside e k h =
      rw (point_at_lem k h)
      (setpoint_codes (point_at l) n few
      (λ j u. rw (point_at_lem j u) at (every_on (within lowest_setpoint highest_setpoint) (points_in l n) inside j (omega (arith, points_long)))) e k h)

-- what the codes tell is what the points tell
pub points_judged : {s : Session} {n from : ℕ} {rs fs cs : List ℕ} → Loaded s n from rs fs cs → {lowest highest : ℕ} → (lowest ≡ s.present.lowest) × (highest ≡ s.present.highest) → (l : List ℕ) {xs : List ℕ}
    → every (within lowest_setpoint highest_setpoint) (points_in l n) ≡ true → xs ≡ written (λ k. code_or_zero lowest_setpoint highest_setpoint (point_at l k)) n zeros
    → {f : Finding} → f ≡ judged_codes xs fs cs rs n from lowest highest → f ≡ judged s (points_in l s.days)
points_judged {s} d t l {xs} inside e f =
    (rw (d.rises, d.floors, d.ceilings, d.first, t.0, t.1, d.days) at f)
    ∙ judged-codes s (points_in l s.days) xs (points_long l s.days) (points_coded l s.days d.bounds.present.most (rw d.days at inside) (rw d.days at e))

module _ (b l : List ℕ) where
  pub inspect_unread : both b l ≡ false → refused 2 ≡ inspected_over b l
  unfolding both inspected_over
  inspect_unread e = rw e refl

  module _ (right : both b l ≡ true) {spent : Bool} (e : spent ≡ (decoding b).spent) where
    pub inspect_spent : spent ≡ true → refused 9 ≡ inspected_over b l
    unfolding both inspected_over
    inspect_spent h = rw right (spent-refused (decoding b) (points_in l (decoding b).days) (points_long l (decoding b).days) (sym e ∙ h))

    pub inspect_judged : spent ≡ false → {f : Finding} → f ≡ judged (decoding b) (points_in l (decoding b).days) → f ≡ inspected_over b l
    unfolding both inspected_over
    inspect_judged h f = rw right (f ∙ unspent-judged (decoding b) (points_in l (decoding b).days) (points_long l (decoding b).days) (sym e ∙ h))
