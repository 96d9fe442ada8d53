-- What the program prints, from the answers of its callees.
use mathlib.Core.Path.{◌≡◌, refl, sym, ap, ◌∙◌}
use mathlib.Core.Option.{some}
use mathlib.Core.List.{List}
use Prim.Native.Nat.{ℕ, ◌*◌, ◌<◌, ◌^◌}
use native.Mathlib.Omega.{arith}
use lib.ListN.{length, length-replicate, length-append, take, drop}
use Rattle.items.proofs.Fits.{store-overlaid}
use Rattle.listing.specs.Listing.{listing, refused_line}
use Rattle.listing.proofs.Refused.{refused-short}
use Rattle.listing.specs.Writes.{page, Writes}
use Rattle.listing.proofs.Writes.{kept}
use Rattle.numbers.specs.declared.mode.Mode.{Mode}
use Rattle.numbers.specs.declared.refusal.Refusal.{Refusal}
use Rattle.std.specs.declared.option.Option.TheVariants.{Some, None}
use Rattle.std.specs.declared.result.Result.TheVariants.{Ok, Err}
use Rattle.formatter.specs.declared.Listed.{Listed}
use Rattle.items.specs.Records.{record_size}
use Rattle.formatter.specs.Answer.{Verdict, turned_away, printed, verdict, with_room, with_listing, ruling, answer_of, answer, buffer_of, listing_after}
use Rattle.numbers.specs.Refusal.{number_of}
use Rattle.formatter.specs.Reply.{ListAnswer, reply_listed}
use Rattle.formatter.specs.Program.{blank, judged, printed_of, response, number_in, Responds}
use lib.Seq.{take_at}
use Rattle.formatter.specs.declared.program.Response.{Response}

pub blank-long : (n : ℕ) → length (blank n) ≡ n
unfolding blank
blank-long n = length-replicate n 0

module _ (o : Mode) (image rs ts ls : List ℕ) (a : length rs ≡ record_size * 5000) (b : length ts ≡ 32000) (c : length ls ≡ 65536) where
  -- of buffers only the lengths are judged
  as-judged : judged o image ≡ ruling o image rs ts (some ls)
  unfolding judged ruling with_listing
  as-judged = rw (blank-long, blank-long, a, b) (go (with_room (record_size * 5000) 32000 (verdict o image)))
    where
      go : (v : Verdict) → with_listing (some (blank 65536)) v ≡ with_listing (some ls) v
      go (turned_away n e) = refl
      go (printed xs) = rw (blank-long, c)

  pub responds-listed : {out : List ℕ} {t : ListAnswer} {d : Listed} → t ≡ Ok d → reply_listed t ≡ answer o image rs ts (some ls) → out ≡ listing_after o image rs ts ls
      → Responds o image ls out (record { refused = None; bytes = d.bytes })
  unfolding answer answer_of listing_after buffer_of response printed_of number_in
  responds-listed {out} {t} {d} i j k = go (ruling o image rs ts (some ls)) as-judged (ap reply_listed (sym i) ∙ j) k
    where
      go : (v : Verdict) → judged o image ≡ v → reply_listed (Ok d) ≡ answer_of (some ls) v → out ≡ buffer_of listing v ls → Responds o image ls out (record { refused = None; bytes = d.bytes })
      go (turned_away m e) q h w = absurd (let z : ◌≡◌ {A = ℕ} 0 1 = cc in omega arith)
      go (printed xs) q h w =
          let l : d.bytes ≡ length (listing xs) = cc in
          record {
            number = rw q;
            counted = rw q l;
            written = rw q w;
            inside = rw (w, length-append) (omega arith);
          }

  pub responds-refused : {mid out : List ℕ} {t : ListAnswer} {f : Refusal} {n m : ℕ} → t ≡ Err f → reply_listed t ≡ answer o image rs ts (some ls) → mid ≡ listing_after o image rs ts ls
      → n ≡ number_of f.reason → n < 2 ^ 64 → f.element.0 < 2 ^ 64 → Writes (refused_line n f.element.0) (page mid 0) (page out m)
      → Responds o image ls out (record { refused = Some f.reason; bytes = m })
  unfolding answer answer_of listing_after buffer_of response printed_of number_in
  responds-refused {mid} {out} {t} {f} {n} {m} i j k d p q w = go (ruling o image rs ts (some ls)) as-judged (ap reply_listed (sym i) ∙ j) k
    where
      go : (v : Verdict) → judged o image ≡ v → reply_listed (Err f) ≡ answer_of (some ls) v → mid ≡ buffer_of listing v ls → Responds o image ls out (record { refused = Some f.reason; bytes = m })
      go (turned_away x e) g h z =
          let s : n ≡ x = cc in
          let u : f.element.0 ≡ e = cc in
          let y = refused-short n f.element.0 p q in
          record {
            number = rw g (sym d ∙ s);
            counted = rw (g, ← s, ← u) (omega (arith, w.counted));
            written = rw (g, ← s, ← u) (w.stored ∙ rw z (store-overlaid _ ls (omega arith)));
            inside = omega (arith, w.counted, kept w, ap length z);
          }
      go (printed xs) g h z = absurd (let z : ◌≡◌ {A = ℕ} 0 1 = cc in omega arith)

-- the bytes of the front are those that are printed
pub front : {m : Mode} {image entry exit : List ℕ} {r : Response} → Responds m image entry exit r → take r.bytes exit ≡ response m image
front {m} {image} {entry} h = rw h.written (take_at (response m image) (drop (length (response m image)) entry) _ (sym h.counted))
