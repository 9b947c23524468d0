-- A cut on a session's bytes by stages, as the code takes them. A reader may pass this page over: the contract of `cut` does not cite it.
use Rattle.std.specs.Prelude.{◌≡◌, false, List, ℕ, ◌*◌, ◌≤◌, length}
use Rattle.session.specs.declared.Session.{Session}
use Rattle.session_cuts.specs.declared.Cut.{Cut}
use Rattle.session_cutting.specs.Cutting.{malformed, clipped, retightened, tightened_to, AfterCut}
use Rattle.session_cutting.specs.Stages.{Clips}
use Rattle.c_layout.specs.Layout.{cell_length, session_bytes, decoding}

-- no check before 8 refuses: b are a session's bytes, the cut is well-formed, v is its value, the list l is long enough, and the session is not spent
pub record Cuttable (b : List ℕ) (c : Cut) (v : ℕ) (l : List ℕ) : Type 0 where
  pub whole : length b ≡ session_bytes
  pub formed : malformed (decoding b).days c ≡ 0
  pub clips : Clips c v
  pub roomy : (decoding b).days * cell_length ≤ length l
  pub unspent : (decoding b).spent ≡ false

-- what the cut then gives for the session that the bytes hold
unfoldable pub made_of : List ℕ → Cut → AfterCut
made_of b c = let s : Session = decoding b in tightened_to s (retightened s (clipped s.present c))
