-- Opening by a session's bytes, by what its calls gave: the arrays hold the codes of the profile's lists, and each return is `open_refusal` with `bytes_opened`.
use mathlib.Core.Path.{◌≡◌, refl, ap, sym, ◌∙◌}
use mathlib.Core.Bool.{Bool}
use mathlib.Core.List.{List}
use Prim.Native.Nat.{ℕ, ◌-◌, ◌≤◌, ◌<◌}
use native.Mathlib.Omega.{arith}
use lib.IntN.{ℤ, pos}
use lib.Dec.{ltb}
use lib.ListN.{length, length-replicate}
use borrow.Author.Tests.{eq-eqb, ne_eqb}
use Rattle.limits.specs.Limits.{lowest_point, highest_point, lowest_rise, highest_rise}
use Rattle.theory_lists.specs.ListOf.{length-list_of, get_list_of}
use Rattle.theory_lists.specs.Some.{some_same, some_first}
use Rattle.theory_lists.specs.Sum.{at}
use Rattle.theory_lists.specs.Written.{written, written_same, written_below}
use Rattle.base_codes.specs.Code.{on, code_or_zero}
use Rattle.theory_method.specs.Filter.{InBounds, first_crossed, zeros}
use Rattle.session.specs.Opening.{fresh, opened, refused_with}
use Rattle.session.specs.Showing.{box_of}
use Rattle.session.specs.Stages.{lengths_of, coded_profile, CodedProfile}
use Rattle.session.specs.declared.Ranges.{Ranges}
use Rattle.session.specs.declared.Session.{Session}
use Rattle.session.proofs.Lengths as Lengths
use Rattle.session.proofs.Checks.{CodedArrays, list-coded}
use Rattle.session.proofs.SessionBounds.{opened_in_bounds}
use Rattle.c_lists.specs.Lists.{point_at, points_in, level_at, levels_crossed}
use Rattle.c_lists.specs.Profiles.{ByteProfile, byte_length_refusal, profile_of}
use Rattle.c_lists.proofs.Laws.{long}
use Rattle.c_layout.specs.Layout.{session_bytes, encoding}
use Rattle.c_sessions.specs.Sessions.{open_refusal, bytes_opened}

-- ---- the lists coded

length_points : (b : List ℕ) (n : ℕ) → length (points_in b n) ≡ n
unfolding points_in
length_points b n = length-list_of (point_at b) n

-- the points of bytes as a list
points_coded : (low high : ℤ) (b : List ℕ) (n : ℕ) {out : List ℕ} → out ≡ written (λ k. code_or_zero low high (point_at b k)) n zeros
    → out ≡ written (λ k. code_or_zero low high (on (points_in b n) k)) (length (points_in b n)) zeros
unfolding points_in
points_coded low high b n e =
    rw (length-list_of (point_at b) n) (e ∙ written_same _ _ n zeros (λ k u. ap (code_or_zero low high) (sym (get_list_of (point_at b) (pos 0) n k u))))

module _ (h : ByteProfile) (right : byte_length_refusal h ≡ 0) where
  pub lengths_right : lengths_of (profile_of h) ≡ 0
  lengths_right =
      let z = long h right in
      let n : ℕ = h.numbers.days in
      sym (Lengths.lengths_right n _ _ _ (record { some = λ e. omega (arith, z.some); few = z.few }) (length_points h.floors n) (length_points h.ceilings n) (length_points h.rises (n - 1)))

  pub lists-coded : {fs cs rs : List ℕ} {r : CodedProfile} → r ≡ coded_profile (profile_of h)
      → (fs ≡ written (level_at h.floors) h.numbers.days zeros)
      × ((cs ≡ written (level_at h.ceilings) h.numbers.days zeros)
      × (rs ≡ written (λ k. code_or_zero lowest_rise highest_rise (point_at h.rises k)) (h.numbers.days - 1) zeros))
      → CodedArrays (profile_of h) fs cs rs r
  lists-coded e w =
      let p = profile_of h in
      let n : ℕ = h.numbers.days in
      record {
        answer = e;
        floors = list-coded p lengths_right lowest_point highest_point p.floors zeros (points_coded lowest_point highest_point h.floors n w.0);
        ceilings = list-coded p lengths_right lowest_point highest_point p.ceilings zeros (points_coded lowest_point highest_point h.ceilings n w.1.0);
        rises = list-coded p lengths_right lowest_rise highest_rise p.rises zeros (points_coded lowest_rise highest_rise h.rises (n - 1) w.1.1);
      }

  -- the arrays hold the levels: a floor is above its ceiling in both, or in neither
  pub lists-crossed : {fs cs : List ℕ} {n : ℕ} {x : Bool} → n ≡ h.numbers.days → x ≡ levels_crossed h.floors h.ceilings h.numbers.days
      → (fs ≡ written (level_at h.floors) h.numbers.days zeros) × (cs ≡ written (level_at h.ceilings) h.numbers.days zeros)
      → x ≡ ltb (first_crossed (at fs) (at cs) n) n
  unfolding levels_crossed
  lists-crossed {fs} {cs} {n} e t w =
      let few : n ≤ length zeros = omega (arith, (long h right).few, length-replicate {A = ℕ} 512 0) in
      let same : (b : List ℕ) (k : ℕ) → k < n → level_at b k ≡ at (written (level_at b) n zeros) k = λ b k u. sym (written_below (level_at b) 0 n zeros k u few) in
      rw (← e) at t
      ∙ some_same (λ k. ltb (level_at h.ceilings k) (level_at h.floors k)) (λ k. ltb (at cs k) (at fs k)) n (λ k u. cc (same h.ceilings k u, same h.floors k u, w.0, w.1, e))
      ∙ some_first (λ k. ltb (at cs k) (at fs k)) n

-- ---- the answers

module _ (b : List ℕ) (h : ByteProfile) where
  abbrev pub Opens : ℕ → List ℕ → Type 0
  Opens r bytes = (r ≡ open_refusal b h) × (bytes ≡ bytes_opened b h)

  pub not-session : (length b ≡ session_bytes → ⊥) → Opens 2 b
  unfolding open_refusal bytes_opened
  not-session x = rw (ne_eqb (length b) session_bytes x) (refl, refl)

  module _ (session : length b ≡ session_bytes) where
    pub lengths_wrong : {r : ℕ} → r ≡ byte_length_refusal h → (r ≡ 0 → ⊥) → Opens r b
    unfolding open_refusal bytes_opened
    lengths_wrong {r} e x = rw (eq-eqb (length b) session_bytes session, ← e, ne_eqb r 0 x) (refl, rw (ne_eqb r 0 x) refl)

    module _ (right : byte_length_refusal h ≡ 0) where
      pub open_refused : {r : ℕ} → (r ≡ 0 → ⊥) → refused_with r ≡ opened (profile_of h) → Opens r b
      unfolding open_refusal bytes_opened
      open_refused {r} x e = rw (eq-eqb (length b) session_bytes session, right, ← e, ne_eqb r 0 x) (refl, refl)

      pub open_stored : (s : Session) {bytes : List ℕ} → record { refusal = 0; session = s } ≡ opened (profile_of h) → bytes ≡ encoding s → Opens 0 bytes
      unfolding open_refusal bytes_opened
      open_stored s e f = rw (eq-eqb (length b) session_bytes session, right, ← e) (refl, f)

-- a fresh session that opening gives is in bounds
pub fresh_in_bounds : (h : ByteProfile) (n first : ℕ) (rs : List ℕ) (r : Ranges) → record { refusal = 0; session = fresh n first rs r } ≡ opened (profile_of h) → InBounds (box_of rs n first r)
fresh_in_bounds h n first rs r e = (rw (← e) at (opened_in_bounds (profile_of h))).opened
