-- The listing of the items that records decode to, line by line.
use mathlib.Core.Path.{◌≡◌, refl, sym, ap, ◌∙◌}
use mathlib.Core.Bool.{Bool, true, false}
use mathlib.Core.Option.{Option, none, some}
use mathlib.Core.List.{List, [], ◌∷◌, ◌++◌}
use Prim.Native.Nat.{ℕ, zero, suc, ◌+◌, ◌*◌, ◌<◌, ◌≤◌, ◌^◌}
use native.Mathlib.Omega.{arith}
use native.Mathlib.Nat.{add-zero}
use lib.Dec.{eqb}
use lib.ListN.{length, get_or, drop, length-append, length-drop}
use lib.Seq.{get_or-drop, drop-drop}
use borrow.Author.Tests.{eqb-true, eqb-false}
use Rattle.items.specs.declared.Count.{Count}
use Rattle.items.specs.Item.{Item}
use Rattle.items.specs.Records.{item_of, cons, decoded, record_size}
use Rattle.items.specs.Lines.{record_lines}
use Rattle.listing.specs.Listing.{head_line, listing}
use Rattle.listing.specs.Writes.{Room}
use Rattle.listing.specs.Shown.{Line, line_at, lines_from}
use Rattle.listing.specs.Listable.{items_in, Listable}
use Rattle.listing.proofs.Head.{head-short}
use Rattle.listing.proofs.Decoding.{Shows, item-shows}

-- The three words of a record from place n on, and what stands behind them.
record Words (rs : List ℕ) (n k a b : ℕ) (ws : List ℕ) : Type 0 where
  kind : get_or rs n 0 ≡ k
  first : get_or rs (n + 1) 0 ≡ a
  second : get_or rs (n + 2) 0 ≡ b
  inside : n + 3 ≤ length rs
  rest : drop (n + 3) rs ≡ ws

words_at : (rs ws : List ℕ) (n k a b : ℕ) → drop n rs ≡ k ∷ a ∷ b ∷ ws → Words rs n k a b ws
words_at rs ws n k a b e = record {
  kind = rw (add-zero n) at (at 0);
  first = at 1;
  second = at 2;
  inside = omega (arith, length-drop n rs, ap length e);
  rest = sym (drop-drop 3 n rs) ∙ ap (drop 3) e;
}
  where
    at : (i : ℕ) → get_or rs (n + i) 0 ≡ get_or (k ∷ a ∷ b ∷ ws) i 0
    at i = sym (get_or-drop n rs i 0) ∙ ap (λ (l : List ℕ). get_or l i 0) e

-- From record i on, m records are those of the items xs.
record Lists (rs ts : List ℕ) (i m : ℕ) (xs : List Item) : Type 0 where
  lines : lines_from rs ts i m ≡ record_lines i xs
  each : (j : ℕ) → i ≤ j → j < i + m → Line rs ts j

-- What is known where the listing of told records is to be written.
pub record Ready (rs ts : List ℕ) (c : Count) : Type 0 where
  pub each : (i : ℕ) → i < c.records → Line rs ts i
  pub whole : listing (items_in rs ts c.records) ≡ head_line c ++ lines_from rs ts 0 c.records
  pub room : Room (head_line c ++ lines_from rs ts 0 c.records) 0

module _ (rs ts : List ℕ) where
  one_more : (i m k a b : ℕ) (ws : List ℕ) (x : Item) (xs : List Item) → Words rs (record_size * i) k a b ws → Shows ts k a b x → Lists rs ts (suc i) m xs → Lists rs ts i (suc m) (x ∷ xs)
  unfolding line_at lines_from record_lines
  one_more i m k a b ws x xs w s l = record {
    lines = rw (w.kind, w.first, w.second, s.shows, l.lines);
    each = λ j u v. go j u v (eqb j i) refl;
  }
    where
      go : (j : ℕ) → i ≤ j → j < i + suc m → (t : Bool) → eqb j i ≡ t → Line rs ts j
      go j u v true e = rw (eqb-true j i e) (record { inside = w.inside; known = rw (w.kind, w.first, w.second) s.readable })
      go j u v false e = let d : j ≡ i → ⊥ = eqb-false j i e in l.each j (omega arith) (omega arith)

  lists : (m i : ℕ) (ws : List ℕ) (xs : List Item) → drop (record_size * i) rs ≡ ws → decoded ws ts m ≡ some xs → Lists rs ts i m xs
  unfolding decoded lines_from record_lines
  lists zero i ws xs e r = let n : [] ≡ xs = cc in rw (← n) (record { lines = refl; each = λ j u v. absurd (omega arith) })
  lists (suc m) i [] xs e r = absurd (let z : ◌≡◌ {A = ℕ} 0 1 = cc in omega arith)
  lists (suc m) i (k ∷ []) xs e r = absurd (let z : ◌≡◌ {A = ℕ} 0 1 = cc in omega arith)
  lists (suc m) i (k ∷ a ∷ []) xs e r = absurd (let z : ◌≡◌ {A = ℕ} 0 1 = cc in omega arith)
  lists (suc m) i (k ∷ a ∷ b ∷ ws) xs e r = go (item_of ts k a b) (decoded ws ts m) refl refl r (lists m (suc i) ws)
    where
      go : (o : Option Item) (p : Option (List Item)) → item_of ts k a b ≡ o → decoded ws ts m ≡ p → cons o p ≡ some xs
          → ((ys : List Item) → drop (record_size * suc i) rs ≡ ws → decoded ws ts m ≡ some ys → Lists rs ts (suc i) m ys) → Lists rs ts i (suc m) xs
      go none p f g r more = absurd (let z : ◌≡◌ {A = ℕ} 0 1 = cc in omega arith)
      go (some x) none f g r more = absurd (let z : ◌≡◌ {A = ℕ} 0 1 = cc in omega arith)
      go (some x) (some ys) f g r more =
          let n : x ∷ ys ≡ xs = cc in
          let w = words_at rs ws (record_size * i) k a b e in
          let t : record_size * suc i ≡ record_size * i + record_size = omega arith in
          let s = item-shows ts k a b x f in
          rw (← n) (one_more i m k a b ws x ys w s (more ys (rw t w.rest) g))

  pub ready : (c : Count) → Listable rs ts c → c.records < 2 ^ 32 → c.texts < 2 ^ 32 → c.runs < 2 ^ 32 → c.marks < 2 ^ 32 → Ready rs ts c
  unfolding listing
  ready c t p q r s =
      let xs = items_in rs ts c.records in
      let l = lists c.records 0 rs xs refl t.decodes in
      record {
        each = λ i h. l.each i (omega arith) (omega arith);
        whole = rw (l.lines, ← t.counts);
        room = record { fits = rw (length-append (head_line c) (lines_from rs ts 0 c.records), l.lines) (omega (arith, head-short c p q r s, t.fits)) };
      }
