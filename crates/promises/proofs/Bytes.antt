-- The bytes of a session that came from opening and cuts.
use Rattle.std.specs.Prelude.{Option}
use mathlib.Core.Path.{◌≡◌, refl, sym, ap, ◌∙◌}
use mathlib.Core.Bool.{Bool, true, false, cond}
use mathlib.Core.List.{List, [], ◌∷◌}
use Prim.Native.Nat.{ℕ, ◌/◌}
use native.Mathlib.Omega.{arith}
use lib.Dec.{eqb}
use borrow.Author.Tests.{eq-eqb, eqb-false}
use Rattle.session.specs.Profile.{Profile}
use Rattle.session.specs.Opening.{opened}
use Rattle.session.specs.declared.Session.{Session}
use Rattle.session_cutting.specs.Cutting.{after_numbered}
use Rattle.promises.specs.Cuts.{after}
use Rattle.c_lists.specs.Profiles.{ByteProfile, byte_length_refusal, profile_of}
use Rattle.c_layout.specs.Layout.{encoding, decoding}
use Rattle.c_layout.specs.Storing.{Storable}
use Rattle.c_layout.proofs.Inverse.{decoding-encoding}
use Rattle.c_sessions.specs.Sessions.{is_session, open_refusal, bytes_opened, bytes_cut}
use Rattle.c_sessions.proofs.Encoded.{encoded, cut_encoded}
use Rattle.promises.specs.InBytes.{ByteCutCall, calls_by_value, bytes_after, CameFrom, SessionsInBytes}
use Rattle.promises.proofs.Storable.{opened_storable, numbered_storable}
use Rattle.session_cuts.specs.declared.Cut.{Cut}

-- ---- cuts

-- a whole list of cuts
pub follow : (s : Session) (hs : List ByteCutCall) → Storable s → (bytes_after (encoding s) hs ≡ encoding (after s (calls_by_value hs))) × Storable (after s (calls_by_value hs))
follow s [] h = (refl, h)
follow s (c ∷ hs) h =
    let f = follow (after_numbered s c.cut (c.bytes / 2)).session hs (numbered_storable s c.cut (c.bytes / 2) h) in
    (ap (λ b. bytes_after b hs) (cut_encoded s h c.cut c.bytes) ∙ f.0, f.1)

-- ---- opening

module _ (b : List ℕ) (h : ByteProfile) (e : open_refusal b h ≡ 0) where
  abbrev lengths : ℕ
  lengths = byte_length_refusal h

  abbrev number : ℕ
  number = (opened (profile_of h)).refusal

  passes : (a c : Bool) → eqb lengths 0 ≡ c → cond a (cond c number lengths) 2 ≡ 0 → number ≡ 0
  passes true true q z = z
  passes true false q z = absurd (eqb-false lengths 0 q z)
  passes false c q z = absurd (omega arith)

  unrefused : (opened (profile_of h)).refusal ≡ 0
  unfolding open_refusal
  unrefused = passes (is_session b) (eqb lengths 0) refl e

  written : bytes_opened b h ≡ encoding (opened (profile_of h)).session
  unfolding bytes_opened
  written = rw (eq-eqb (open_refusal b h) 0 e) refl

-- ---- both

-- what is known of bytes that came from opening and cuts
pub record Came (p : Profile) (hs : List ByteCutCall) (b : List ℕ) : Type 0 where
  pub opens : (opened p).refusal ≡ 0
  pub bytes : b ≡ encoding (after (opened p).session (calls_by_value hs))
  pub held : decoding b ≡ after (opened p).session (calls_by_value hs)
  pub back : b ≡ encoding (decoding b)
  pub storable : Storable (decoding b)
  pub sized : is_session b ≡ true

pub came : (p : Profile) (hs : List ByteCutCall) (b : List ℕ) → CameFrom p hs b → Came p hs b
came p hs b c =
    let s : Session = after (opened p).session (calls_by_value hs) in
    let opens : (opened p).refusal ≡ 0 = rw (← c.entered) at (unrefused c.lent c.handed c.accepted) in
    let opening = written c.lent c.handed c.accepted in
    let f = follow (opened p).session hs (opened_storable p opens) in
    let bytes : b ≡ encoding s = c.bytes ∙ ap (λ a. bytes_after a hs) (opening ∙ rw (← c.entered) refl) ∙ f.0 in
    let held : decoding b ≡ s = ap decoding bytes ∙ decoding-encoding s f.1 in
    record {
      opens = opens;
      bytes = bytes;
      held = held;
      back = bytes ∙ ap encoding (sym held);
      storable = rw held f.1;
      sized = rw bytes (encoded s f.1);
    }

-- one cut more
pub record CutHeld (b : List ℕ) (t : Option Cut) (bytes : ℕ) : Type 0 where
  pub after-bytes : bytes_cut b t bytes ≡ encoding (after_numbered (decoding b) t (bytes / 2)).session
  pub after-held : decoding (bytes_cut b t bytes) ≡ (after_numbered (decoding b) t (bytes / 2)).session

pub cut-held : (p : Profile) (hs : List ByteCutCall) (b : List ℕ) → CameFrom p hs b → (t : Option Cut) (bytes : ℕ) → CutHeld b t bytes
cut-held p hs b c t bytes =
    let w = came p hs b c in
    let e = ap (λ a. bytes_cut a t bytes) w.back ∙ cut_encoded (decoding b) w.storable t bytes in
    record {
      after-bytes = e;
      after-held = ap decoding e ∙ decoding-encoding (after_numbered (decoding b) t (bytes / 2)).session (numbered_storable (decoding b) t (bytes / 2) w.storable);
    }

pub sessions_in_bytes : SessionsInBytes
sessions_in_bytes p hs b c = let w = came p hs b c in record { opens = w.opens; bytes = w.bytes; held = w.held }
