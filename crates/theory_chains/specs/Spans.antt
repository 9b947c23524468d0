-- The range of values that a number takes on a set of sequences.
use Rattle.std.specs.Prelude.{◌≡◌, ℕ, ◌+◌, ◌-◌, ◌≤◌}
use Rattle.std.proofs.Common.{le_refl, arith}

-- the values of f on the sequences of S run exactly from lo to hi: none lies outside, and each number from lo to hi is one of them
pub record NatSpans (S : (ℕ → ℕ) → Type 0) (f : (ℕ → ℕ) → ℕ) (lo hi : ℕ) : Type 0 where
  pub some : lo ≤ hi
  pub inside : (y : ℕ → ℕ) → S y → (lo ≤ f y) × (f y ≤ hi)
  pub taken : (v : ℕ) → lo ≤ v → v ≤ hi → (y : ℕ → ℕ) × S y × (f y ≡ v)

-- two sets with the same sequences
pub spans_same : {S T : (ℕ → ℕ) → Type 0} {f : (ℕ → ℕ) → ℕ} {lo hi : ℕ} → ((x : ℕ → ℕ) → T x → S x) → ((x : ℕ → ℕ) → S x → T x) → NatSpans S f lo hi → NatSpans T f lo hi
spans_same there back s =
    record {
      some = s.some;
      inside = λ x t. s.inside x (there x t);
      taken = λ v l h. let z = s.taken v l h in (z.0, back z.0 z.1, z.2);
    }

-- it is the only range
module _ {S : (ℕ → ℕ) → Type 0} {f : (ℕ → ℕ) → ℕ} {lo hi lo' hi' : ℕ} (a : NatSpans S f lo hi) (b : NatSpans S f lo' hi') where
  least-below : lo ≤ lo'
  least-below = let z = b.taken lo' (le_refl lo') b.some in omega (arith, (a.inside z.0 z.1).0, z.2)

  most-above : hi' ≤ hi
  most-above = let z = b.taken hi' b.some (le_refl hi') in omega (arith, (a.inside z.0 z.1).1, z.2)

pub spans_least : {S : (ℕ → ℕ) → Type 0} {f : (ℕ → ℕ) → ℕ} {lo hi lo' hi' : ℕ} → NatSpans S f lo hi → NatSpans S f lo' hi' → lo ≡ lo'
spans_least a b = omega (arith, least-below a b, least-below b a)

pub spans_most : {S : (ℕ → ℕ) → Type 0} {f : (ℕ → ℕ) → ℕ} {lo hi lo' hi' : ℕ} → NatSpans S f lo hi → NatSpans S f lo' hi' → hi ≡ hi'
spans_most a b = omega (arith, most-above a b, most-above b a)

-- a sequence of T for which e and c make up v
abbrev pub Like : ((ℕ → ℕ) → Type 0) → ((ℕ → ℕ) → ℕ) → ℕ → ℕ → Type 0
Like T e c v = (x : ℕ → ℕ) × T x × (e x + c ≡ v)

-- the same range elsewhere on the scale, of a set whose sequences answer to those of S
pub spans_moved : {S T : (ℕ → ℕ) → Type 0} {f e : (ℕ → ℕ) → ℕ} {lo hi lo' hi' : ℕ} (c d : ℕ) → NatSpans S f lo hi
    → ((x : ℕ → ℕ) → T x → Like S f d (e x + c)) → ((y : ℕ → ℕ) → S y → Like T e c (f y + d))
    → lo' + c ≡ lo + d → hi' + c ≡ hi + d → NatSpans T e lo' hi'
spans_moved {lo' = lo'} {hi' = hi'} c d s there back low high =
    record {
      some = omega (arith, s.some);
      inside = λ x t. let z = there x t in (omega (arith, (s.inside z.0 z.1).0, z.2), omega (arith, (s.inside z.0 z.1).1, z.2));
      taken = λ v l h.
          let z = s.taken (v + c - d) (omega arith) (omega arith) in
          let x = back z.0 z.1 in
          (x.0, x.1, omega (arith, x.2, z.2));
    }
