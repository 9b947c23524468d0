-- The loop that stores f k at each k below n: what holds after k stores, and what starts it, keeps it and ends it.
use Rattle.std.specs.Prelude.{ℕ, ◌+◌, ◌≤◌, ◌<◌, ◌≡◌, refl, List, length, set}
use Rattle.std.proofs.Common.{ap, sym, ◌∙◌, arith, length-set}
use Rattle.theory_lists.specs.Written.{written, written_none, written-more}

pub record Filled {A : Type 0} (f : ℕ → A) (n k : ℕ) (l out : List A) : Type 0 where
  pub most : k ≤ n
  pub kept : length out ≡ length l
  pub made : out ≡ written f k l

module _ {A : Type 0} {f : ℕ → A} {n : ℕ} {l : List A} where
  pub filled_none : Filled f n 0 l l
  filled_none = record { most = omega arith; kept = refl; made = sym (written_none f l) }

  pub filled_more : {k : ℕ} {v : A} {out : List A} → Filled f n k l out → k < n → v ≡ f k → Filled f n (k + 1) l (set out k v)
  filled_more {k} {v} {out} h u e =
      record {
        most = omega arith;
        kept = length-set out k v ∙ h.kept;
        made = ap (λ o. set o k v) h.made ∙ written-more f k l v e;
      }

  pub filled-all : {k : ℕ} {out : List A} → Filled f n k l out → n ≤ k → out ≡ written f n l
  filled-all {k} h u = let e : k ≡ n = omega (arith, h.most) in rw e at h.made
