-- The loop that applies cuts, a text stored part after part, what is shown, and the stages.
use Rattle.std.specs.Prelude.{Result, Ok, Err}
use Rattle.std.specs.Result.{IsOk}
use Prim.Native.Nat.{ℕ, ◌+◌, ◌≤◌, ◌<◌}
use mathlib.Core.Path.{◌≡◌, refl, ap, sym, ◌∙◌}
use mathlib.Core.List.{List, ◌++◌}
use native.Mathlib.Omega.{arith}
use lib.IntN.{ℤ, pos}
use lib.ListN.{length, length-append}
use lib.Seq.{sets, length-sets}
use borrow.Author.Tests.{le-ltb}
use Rattle.theory_lists.specs.Rows.{sets_append}
use Rattle.theory_lists.specs.Written.{written, written_below}
use Rattle.theory_lists.specs.Lent.{lent_list, list-filled}
use Rattle.base_codes.specs.Code.{on}
use Rattle.refusals.specs.declared.Refusal.{Refusal}
use Rattle.refusals.specs.Number.{refusal_number, refusal_of}
use Rattle.refusals.proofs.Laws.{refused}
use Rattle.session.specs.Showing.{SessionInBounds, floor_on, ceiling_on, total_floor, total_ceiling, shown, Shown, shown_as}
use Rattle.session.specs.declared.Shown as Code-shown
use Rattle.session.specs.declared.Session.{Session}
use Rattle.session.specs.Opening.{Opened, opened}
use Rattle.session.specs.Profile.{Profile}
use Rattle.session.proofs.SessionBounds.{opened_in_bounds}
use Rattle.session_cuts.specs.declared.Cut.{Cut}
use Rattle.session_cutting.specs.Cutting.{after_cut, after_as}
use Rattle.session_cutting.specs.declared.AfterCut as Code
use Rattle.session_cutting.proofs.Laws.{cut_in_bounds}
use Rattle.base_text.specs.Numbers.{number}
use Rattle.file_printing.specs.Stages.{unrefused, Gives}
use Rattle.file_printing.specs.Printing.{after_entry, cut_once, cut_all, day_line}
use Rattle.file_printing.proofs.Lines.{all_none, all_more, all-stays, once_applied}

-- ---- the cuts

-- the first j of n cuts are applied
pub record Applied (o : Opened) (f : ℕ → Cut) (n j : ℕ) (after : Opened) : Type 0 where
  pub most : j ≤ n
  pub made : after ≡ cut_all o f j
  pub bounds : SessionInBounds after.session

module _ {o : Opened} {f : ℕ → Cut} {n : ℕ} where
  pub applied_none : SessionInBounds o.session → Applied o f n 0 o
  applied_none b = record { most = omega arith; made = sym (all_none o f); bounds = b }

  -- the next cut, where none has been refused
  more : {j : ℕ} {s : Session} → Applied o f n j (unrefused s) → cut_all o f (j + 1) ≡ after_entry (after_cut s (f j) 512)
  more {j} {s} h = all_more o f j ∙ ap (λ a. cut_once a (f j)) (sym h.made) ∙ once_applied (unrefused s) (f j) refl

  pub applied_more : {j : ℕ} {s next : Session} → Applied o f n j (unrefused s) → j < n → Gives (Ok next) (after_entry (after_cut s (f j) 512)) → Applied o f n (j + 1) (unrefused next)
  applied_more {j} h u e = record { most = omega arith; made = sym (more h ∙ e.0); bounds = e.1 }

  pub applied_refused : {j : ℕ} {s : Session} (r : Refusal) → Applied o f n j (unrefused s) → j < n → Gives (Err r) (after_entry (after_cut s (f j) 512)) → Gives (Err r) (cut_all o f n)
  applied_refused {j} {s} r h u e =
      let here : (cut_all o f (j + 1)).refusal ≡ refusal_number r = ap (λ a. a.refusal) (more h) ∙ e in
      ap (λ a. a.refusal) (all-stays o f (j + 1) n (omega arith) (λ z. refused r (sym here ∙ z))) ∙ here

  pub applied_all : {j : ℕ} {s : Session} → Applied o f n j (unrefused s) → n ≤ j → Gives (Ok s) (cut_all o f n)
  applied_all {j} h u = let e : j ≡ n = omega (arith, h.most) in (sym (rw e at h.made), h.bounds)

-- a cut that is not refused
pub cut_told : (s : Session) (c : Cut) {a : Code.AfterCut} {n : ℕ} → SessionInBounds s → after_as a ≡ after_cut s c 512 → a.answer ≡ Ok n
    → Gives (Ok a.session) (after_entry (after_cut s c 512))
cut_told s c b e was = (ap after_entry (sym e) ∙ rw was refl, rw (← e) at (cut_in_bounds s c 512 b))

-- a profile that opens
pub opened_told : (p : Profile) {s : Session} → unrefused s ≡ opened p → Gives (Ok s) (opened p)
opened_told p e = (sym e, rw (← e) at (opened_in_bounds p))

-- ---- the text

-- with `rest` stored in `out` from `next` on, all of a text is stored in l from a place on
pub record Left (l : List ℕ) (place : ℕ) (all out : List ℕ) (next : ℕ) (rest : List ℕ) : Type 0 where
  pub made : sets out next rest ≡ sets l place all
  pub ends : next + length rest ≡ place + length all
  pub kept : length out ≡ length l

module _ {l : List ℕ} {place : ℕ} where
  pub left-all : {all xs : List ℕ} → all ≡ xs → Left l place all l place xs
  left-all e = record { made = ap (sets l place) (sym e); ends = ap (λ ys. place + length ys) (sym e); kept = refl }

  module _ {all : List ℕ} {out : List ℕ} {next : ℕ} {after : List ℕ} {end : ℕ} where
    -- one part more
    pub left-more : (xs : List ℕ) {rest : List ℕ} → Left l place all out next (xs ++ rest) → (after ≡ sets out next xs) × (end ≡ next + length xs) → Left l place all after end rest
    left-more xs {rest} h e =
        record {
          made = rw (e.0, e.1) (sets_append xs rest out next ∙ h.made);
          ends = omega (arith, h.ends, e.1, length-append xs rest);
          kept = ap length e.0 ∙ length-sets out next xs ∙ h.kept;
        }

    -- a number's text, where the number has another name
    pub left-number : {y z : ℤ} {rest : List ℕ} → y ≡ z → Left l place all out next (number z ++ rest) → (after ≡ sets out next (number y)) × (end ≡ next + length (number y))
        → Left l place all after end rest
    left-number {z = z} e h w = left-more (number z) h (rw e at w)

    -- the last part
    pub left-none : {xs : List ℕ} → Left l place all out next xs → (after ≡ sets out next xs) × (end ≡ next + length xs) → (after ≡ sets l place all) × (end ≡ place + length all)
    left-none h e = (e.0 ∙ h.made, e.1 ∙ h.ends)

  -- there is room for the next part
  pub left-room : {all out : List ℕ} {next : ℕ} (xs rest : List ℕ) → Left l place all out next (xs ++ rest) → place + length all ≤ length l → next + length xs ≤ length out
  left-room xs rest h u = omega (arith, h.ends, h.kept, length-append xs rest)

  pub last-room : {all out : List ℕ} {next : ℕ} {xs : List ℕ} → Left l place all out next xs → place + length all ≤ length l → next + length xs ≤ length out
  last-room h u = omega (arith, h.ends, h.kept)

-- ---- what is shown

number-shown : (q : Result Code-shown.Shown Refusal) → refusal_of q ≡ (shown_as q).refusal
number-shown (Ok shown) = refl
number-shown (Err refusal) = refl

-- what `show` was asked and gave: the lists ls and us were lent, and fs and cs came back
pub record Asked (s : Session) (q : Result Code-shown.Shown Refusal) (ls us fs cs : List ℤ) : Type 0 where
  pub bounds : SessionInBounds s
  pub floors-long : length ls ≡ 512
  pub ceilings-long : length us ≡ 512
  pub answer : shown_as q ≡ shown s (length ls) (length us)
  pub floors : fs ≡ lent_list (refusal_of q) (floor_on s) s.days ls
  pub ceilings : cs ≡ lent_list (refusal_of q) (ceiling_on s) s.days us

-- with lists of 512 numbers lent: the present ranges
pub record Showed (s : Session) (r : Shown) (fs cs : List ℤ) : Type 0 where
  pub none : r.refusal ≡ 0
  pub least : r.lowest ≡ total_floor s
  pub most : r.highest ≡ total_ceiling s
  pub lines : (k : ℕ) → k < s.days → day_line k (on fs k) (on cs k) ≡ day_line k (floor_on s k) (ceiling_on s k)

pub showed : {s : Session} {q : Result Code-shown.Shown Refusal} {ls us fs cs : List ℤ} → Asked s q ls us fs cs → Showed s (shown_as q) fs cs
unfolding shown
showed {s} {q} {ls} {us} {fs} {cs} h =
    let l = h.floors-long in
    let u = h.ceilings-long in
    let m = h.bounds.present.most in
    let a : shown_as q ≡ record { refusal = 0; lowest = total_floor s; highest = total_ceiling s; spent = s.spent } =
    rw (l, u, le-ltb 512 s.days m) at h.answer in
    let none : (shown_as q).refusal ≡ 0 = ap (λ x. x.refusal) a in
    let z : refusal_of q ≡ 0 = number-shown q ∙ none in
    let g : fs ≡ written (floor_on s) s.days ls = h.floors ∙ list-filled (refusal_of q) (floor_on s) s.days ls z in
    let d : cs ≡ written (ceiling_on s) s.days us = h.ceilings ∙ list-filled (refusal_of q) (ceiling_on s) s.days us z in
    record {
      none = none;
      least = ap (λ x. x.lowest) a;
      most = ap (λ x. x.highest) a;
      lines = λ k below.
          let low : on fs k ≡ floor_on s k = rw g (written_below (floor_on s) (pos 0) s.days ls k below (omega arith)) in
          let high : on cs k ≡ ceiling_on s k = rw d (written_below (ceiling_on s) (pos 0) s.days us k below (omega arith)) in
          rw (low, high) refl;
    }

pub is_shown : {s : Session} {fs cs : List ℤ} (r : Result Code-shown.Shown Refusal) → Showed s (shown_as r) fs cs → IsOk r
is_shown (Ok shown) h = refl
is_shown (Err refusal) h = absurd (refused refusal h.none)
