-- Sessions as a caller in C holds them: their bytes come from opening and from cuts, and after any whole list of cuts they are those of the session by value.
use Rattle.std.specs.Prelude.{◌≡◌, List, [], ◌∷◌, ℕ, ◌/◌, Option}
use Rattle.session.specs.Profile.{Profile}
use Rattle.session.specs.Opening.{opened}
use Rattle.promises.specs.Cuts.{CutCall, after}
use Rattle.c_lists.specs.Profiles.{ByteProfile, profile_of}
use Rattle.c_layout.specs.Layout.{encoding, decoding}
use Rattle.c_sessions.specs.Sessions.{open_refusal, bytes_opened, bytes_cut}
use Rattle.session_cuts.specs.declared.Cut.{Cut}

-- a cut as it is handed over in C: the list lent for changed days has that many bytes
pub record ByteCutCall : Type 0 where
  pub cut : Option Cut
  pub bytes : ℕ

-- the same cuts by value
abbrev pub calls_by_value : List ByteCutCall → List CutCall
calls_by_value [] = []
calls_by_value (h ∷ hs) = record { cut = h.cut; room = h.bytes / 2 } ∷ calls_by_value hs

-- a session's bytes after a whole list of cuts, one after another, refused ones included
abbrev pub bytes_after : List ℕ → List ByteCutCall → List ℕ
bytes_after b [] = b
bytes_after b (h ∷ hs) = bytes_after (bytes_cut b h.cut h.bytes) hs

-- b are a session's bytes: opening answered 0 for the profile p, which its byte lists held, and wrote them over what was lent; then came the cuts hs
pub record CameFrom (p : Profile) (hs : List ByteCutCall) (b : List ℕ) : Type 0 where
  pub lent : List ℕ
  pub handed : ByteProfile
  pub entered : p ≡ profile_of handed
  pub accepted : open_refusal lent handed ≡ 0
  pub bytes : b ≡ bytes_after (bytes_opened lent handed) hs

-- such bytes are the encoding of the session by value after the same cuts, and hold just that session
pub record InBytes (p : Profile) (hs : List ByteCutCall) (b : List ℕ) : Type 0 where
  pub opens : (opened p).refusal ≡ 0
  pub bytes : b ≡ encoding (after (opened p).session (calls_by_value hs))
  pub held : decoding b ≡ after (opened p).session (calls_by_value hs)

abbrev pub SessionsInBytes : Type 0
SessionsInBytes = (p : Profile) (hs : List ByteCutCall) (b : List ℕ) → CameFrom p hs b → InBytes p hs b
