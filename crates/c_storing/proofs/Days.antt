-- The loop that stores the ranges of days and leaves how many points each lost: what holds at its head, what starts it, what a turn does, and its way out.
use Prim.Native.Nat.{ℕ, ◌+◌, ◌-◌, ◌*◌, ◌≤◌, ◌<◌, min}
use mathlib.Core.Path.{◌≡◌, refl, sym, ap, ◌∙◌}
use mathlib.Core.List.{List}
use native.Mathlib.Omega.{arith}
use lib.ListN.{length, set}
use lib.Seq.{sets, length-sets}
use Rattle.theory_lists.specs.Part.{stores_apart}
use Rattle.theory_lists.specs.Rows.{rows, rows_add, stored_after}
use Rattle.theory_lists.specs.Written.{written, written_none, written-more}
use Rattle.base_little_endian.specs.Fields.{u16_at, u16_bytes}
use Rattle.base_little_endian.proofs.Laws.{u16-length}
use Rattle.c_lists.specs.Lists.{cell_bytes}
use Rattle.c_layout.proofs.Lengths.{cells_length}
use Rattle.c_storing.proofs.Laws.{field_before, field_past}

-- what day k loses where the range from f k to g k is stored over the one that b has
abbrev pub loss_of : List ℕ → (ℕ → ℕ) → (ℕ → ℕ) → ℕ → ℕ
loss_of b f g k = (min (u16_at b (4116 + k * 2)) 5000 - min (u16_at b (3092 + k * 2)) 5000) - (g k - f k)

-- the ranges of the days below k are stored in b
abbrev ranged : List ℕ → (ℕ → ℕ) → (ℕ → ℕ) → ℕ → List ℕ
ranged b f g k = sets (sets b 3092 (cell_bytes f k)) 4116 (cell_bytes g k)

-- and what those days lost stands in l
pub record Ranged (b : List ℕ) (f g : ℕ → ℕ) (n k : ℕ) (l out losses : List ℕ) : Type 0 where
  pub most : k ≤ n
  pub long : length out ≡ length b
  pub stored : out ≡ ranged b f g k
  pub lost : losses ≡ written (loss_of b f g) k l

-- a turn stores the cells of its day
pub record Put (b : List ℕ) (f g : ℕ → ℕ) (n k : ℕ) (l out losses out' losses' : List ℕ) : Type 0 where
  pub head : Ranged b f g n k l out losses
  pub more : k < n
  pub most : n ≤ 512
  pub put : out' ≡ sets (sets out (3092 + k * 2) (u16_bytes (f k))) (4116 + k * 2) (u16_bytes (g k))
  pub lost : losses' ≡ set losses k (loss_of out f g k)

module _ {b : List ℕ} {f g : ℕ → ℕ} {n : ℕ} {l : List ℕ} where
  pub ranged-none : Ranged b f g n 0 l b l
  unfolding cell_bytes rows
  ranged-none = record { most = omega arith; long = refl; stored = refl; lost = sym (written_none (loss_of b f g) l) }

  module _ {k : ℕ} {out losses out' losses' : List ℕ} (p : Put b f g n k l out losses out' losses') where
    -- no turn has reached the cells of its day
    low-left : u16_at out (3092 + k * 2) ≡ u16_at b (3092 + k * 2)
    low-left =
        let w = cells_length f k in
        rw p.head.stored (field_before (cell_bytes g k) (sets b 3092 (cell_bytes f k)) 4116 (3092 + k * 2) (omega (arith, p.more, p.most)) ∙ field_past (cell_bytes f k) b 3092 (3092 + k * 2) (omega arith))

    high-left : u16_at out (4116 + k * 2) ≡ u16_at b (4116 + k * 2)
    high-left =
        let v = cells_length f k in
        let w = cells_length g k in
        rw p.head.stored
        (field_past (cell_bytes g k) (sets b 3092 (cell_bytes f k)) 4116 (4116 + k * 2) (omega arith) ∙ field_past (cell_bytes f k) b 3092 (4116 + k * 2) (omega (arith, p.more, p.most)))

    same : loss_of out f g k ≡ loss_of b f g k
    same = λ i. (min (high-left i) 5000 - min (low-left i) 5000) - (g k - f k)

    row : (h : ℕ → ℕ) (m : List ℕ) (i : ℕ) → sets (sets m i (cell_bytes h k)) (i + k * 2) (u16_bytes (h k)) ≡ sets m i (cell_bytes h (k + 1))
    unfolding cell_bytes
    row h m i = stored_after m i (k * 2) (cell_bytes h k) (u16_bytes (h k)) (cells_length h k) refl refl ∙ ap (sets m i) (sym (rows_add (λ j. u16_bytes (h j)) k))

    next : out' ≡ ranged b f g (k + 1)
    next =
        let x : List ℕ = u16_bytes (f k) in
        let apart : sets (ranged b f g k) (3092 + k * 2) x ≡ sets (sets (sets b 3092 (cell_bytes f k)) (3092 + k * 2) x) 4116 (cell_bytes g k) =
        stores_apart x (cell_bytes g k) (sets b 3092 (cell_bytes f k)) (3092 + k * 2) 4116 (omega (arith, u16-length (f k), p.more, p.most)) in
        p.put ∙ rw (p.head.stored, apart, row f b 3092) (row g (sets b 3092 (cell_bytes f (k + 1))) 4116)

    pub ranged-more : Ranged b f g n (k + 1) l out' losses'
    ranged-more =
        record {
          most = omega (arith, p.more);
          long = ap length p.put ∙ length-sets (sets out (3092 + k * 2) (u16_bytes (f k))) (4116 + k * 2) (u16_bytes (g k)) ∙ length-sets out (3092 + k * 2) (u16_bytes (f k)) ∙ p.head.long;
          stored = next;
          lost = p.lost ∙ ap (λ m. set m k (loss_of out f g k)) p.head.lost ∙ written-more (loss_of b f g) k l (loss_of out f g k) same;
        }

  pub ranged-all : {k : ℕ} {out losses : List ℕ} → Ranged b f g n k l out losses → n ≤ k → (losses ≡ written (loss_of b f g) n l) × (out ≡ ranged b f g n)
  ranged-all {k} h u = let q : k ≡ n = omega (arith, h.most) in (rw q at h.lost, rw q at h.stored)
