-- The loop of `lead`: the first gap of a reading with a trailing list so far.
use mathlib.Core.Path.{◌≡◌, refl, ap, ◌∙◌, sym}
use mathlib.Core.Bool.{Bool, true, false, cond}
use mathlib.Core.List.{List, [], ◌∷◌, append-nil}
use Prim.Native.Nat.{ℕ, ◌+◌, ◌<◌, ◌≤◌, ◌^◌}
use native.Mathlib.Omega.{arith}
use Rattle.tree.specs.declared.class.Kinds.{Kinds}
use Rattle.tree.specs.Class.{is}
use Rattle.tree.specs.Tree.{Part}
use Rattle.children.specs.Gaps.{Turn, turn, widen, gaps, space_in}
use Rattle.tree.specs.Index.{Table, Region, parts_from, part_at, kind_at, end_at}
use Rattle.children.specs.declared.gap.End.{End}
use Rattle.children.specs.declared.gap.Span.{Span}
use Rattle.children.specs.declared.turn.Go.{Go}
use Rattle.std.specs.declared.ops.ControlFlow.TheVariants.{Continue, Break}
use Rattle.children.specs.declared.tally.Tally.{Tally}
use Rattle.children.specs.Stretch.{Jumps, here, waiting_in}
use Rattle.children.specs.Tally.{nothing, counted}
use Rattle.children.specs.Spans.{Lies}
use Rattle.children.specs.Lead.{leads, led_by, adds_error, led, Leads}
use Rattle.tree.proofs.Siblings.{parts_next, parts-over}
use Rattle.children.proofs.Spanning.{said, Says}
use Rattle.children.proofs.Growing.{waiting_none, waiting-follow, Tallied, tallied-none, tallied-few, tallied-fits, tallied-goes}
use Rattle.tree.specs.declared.class.Class.TheVariants as Class
use Rattle.children.proofs.Stretch.{jumps-next}
use Rattle.children.proofs.Widening.{widen_none, widen-both}

-- The first gap so far.
pub record Leading (index image : List ℕ) (w : Kinds) (loose : Bool) (from b j : ℕ) (t : Tally) : Type 0 where
  pub region : Region image index j b
  pub done : Jumps index region.n from j
  pub tally : Tallied index image from j j t
  pub rest : leads w loose (parts_from image index from b) ≡ widen [] (waiting_in image index from j j) (leads w loose (parts_from image index j b))

pub leading-none : (index image : List ℕ) (w : Kinds) (l : Bool) (from b : ℕ) (t : Tally) → Region image index from b → t ≡ nothing → Leading index image w l from b from t
leading-none index image w l from b t r e = rw e (record { region = r; done = here; tally = tallied-none index image from; rest = rw (waiting_none, widen_none) })

leads-next : {index image : List ℕ} {n : ℕ} (t : Table image index n) (w : Kinds) (l : Bool) (j b : ℕ) → b ≤ n → j < b
    → leads w l (parts_from image index j b) ≡ led_by (turn w l true false (part_at image index j)) (part_at image index j) (leads w l (parts_from image index (end_at index j) b)) (gaps w l false true (parts_from image index (end_at index j) b))
unfolding leads
leads-next t w l j b k g = rw (parts_next t j b k g)

adds_error_lem : (g : Go) (s : Bool) (x : Part) → Says g s x → cond (is Class.CustomError x) (x ∷ []) [] ≡ adds_error g x
adds_error_lem Go.Inline s x y = rw y.error
adds_error_lem Go.Last s x y = rw y.error
adds_error_lem Go.Wait s x y = rw y.error
adds_error_lem Go.Error s x y = rw y.error
adds_error_lem Go.Skip s x y = rw y.error
adds_error_lem Go.Over s x y = rw y.error

module _ {index image : List ℕ} {w : Kinds} {l : Bool} {from b j : ℕ} {t : Tally} (K : Leading index image w l from b j t) where
  abbrev tab : Table image index K.region.n
  tab = K.region.table

  laid : {e : Bool} {d : End} → Lies image index (record { from = from; cut = j; to = j; had = e; end = d; tally = t })
  laid = record {
    first = record { n = K.region.n; table = tab; upto = K.region.begins; jumps = K.done };
    second = record { n = K.region.n; table = tab; upto = K.region.begins; jumps = here };
    tells = K.tally.tells;
    few = tallied-few tab K.tally K.region.begins;
  }

  module _ (lt : j < b) where
    abbrev x : Part
    x = part_at image index j

    in-n : j < K.region.n
    in-n = omega (arith, K.region.ends)

    step : (g : Go) → turn w l true false x ≡ Continue g → Says g true x → Leading index image w l from b (end_at index j) (counted true (kind_at index j) (space_in x) t)
    step g q y = record {
      region = record { n = K.region.n; table = tab; begins = tab.inside j in-n; ends = K.region.ends };
      done = jumps-next tab K.done in-n;
      tally = tallied-goes tab K.tally in-n K.done;
      rest = rw (waiting-follow tab from j in-n K.done, adds_error_lem g true x y)
          (K.rest ∙ ap (widen [] (waiting_in image index from j j)) (rw q at (leads-next tab w l j b K.region.ends lt)) ∙ widen-both [] (waiting_in image index from j j) [] (adds_error g x) _);
    }

    -- the tally fits
    pub leading-fits : (f : ℕ) → f ≡ space_in x → t.before + t.back + f + 2 < 2 ^ 64
    leading-fits = tallied-fits tab K.tally in-n

    pub leading-more : (T : Turn) (g : Go) (next k m : ℕ) (t' : Tally) → m ≡ space_in x → T ≡ turn w l true false x → T ≡ Continue g → k ≡ kind_at index j → t' ≡ counted true k m t → next ≡ end_at index j → Leading index image w l from b next t'
    leading-more T g next k m t' i d e o u z = rw (u, o, i, z) (step g (sym d ∙ e) (rw (sym d ∙ e) at (said w l true false x)))

    ended : (e : End) → turn w l true false x ≡ Break e
        → led image index w l b (record { from = from; cut = j; to = j; had = false; end = e; tally = t }) ≡ widen [] (waiting_in image index from j j) (leads w l (parts_from image index j b))
    unfolding led widen
    ended End.Child q = rw (leads-next tab w l j b K.region.ends lt, q, append-nil (waiting_in image index from j j))
    ended End.Last q = rw (leads-next tab w l j b K.region.ends lt, q, append-nil (waiting_in image index from j j))
    ended End.Foreign q = rw (leads-next tab w l j b K.region.ends lt, q, append-nil (waiting_in image index from j j))

    pub leading-stop : (T : Turn) (e : End) (r : Span) → T ≡ turn w l true false x → T ≡ Break e → r ≡ record { from = from; cut = j; to = j; had = false; end = e; tally = t } → Leads image index w l from b r
    leading-stop T e r d q z = rw z (record {
      begins = refl;
      cuts = refl;
      lies = laid;
      onward = K.region;
      inside = λ q. lt;
      read = K.rest ∙ sym (ended e (sym d ∙ q));
    })

  over : b ≤ j → led image index w l b (record { from = from; cut = j; to = j; had = false; end = End.Last; tally = t }) ≡ widen [] (waiting_in image index from j j) (leads w l (parts_from image index j b))
  unfolding led widen leads
  over k = rw (parts-over index image j b k, append-nil (waiting_in image index from j j))

  pub leading-all : (r : Span) → b ≤ j → r ≡ record { from = from; cut = j; to = j; had = false; end = End.Last; tally = t } → Leads image index w l from b r
  leading-all r k z = rw z (record {
    begins = refl;
    cuts = refl;
    lies = laid;
    onward = K.region;
    inside = λ q. let z : ◌≡◌ {A = ℕ} 0 1 = cc in absurd (omega arith);
    read = K.rest ∙ sym (over k);
  })
