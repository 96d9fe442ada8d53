-- An answer from what the callees give.
use mathlib.Core.Path.{◌≡◌, refl, sym, ap, ◌∙◌}
use mathlib.Core.Bool.{false}
use mathlib.Core.Option.{Option as Maybe, none, some}
use mathlib.Core.List.{List}
use Prim.Native.Nat.{ℕ}
use Rattle.std.specs.Borrow.{MutBor}
use Rattle.std.specs.Prelude.{Option, Some, None}
use Rattle.items.specs.declared.Output.{Output}
use Rattle.items.specs.declared.Size.{Size}
use Rattle.items.specs.Machine.{printing, seen, no_size, output, Says}
use Rattle.comments.specs.Comments.{Location, comment}
use Rattle.items.specs.declared.Count.{Count}
use Rattle.std.specs.declared.result.Result.{Result}
use Rattle.std.specs.declared.result.Result.TheVariants.{Ok, Err}
use Rattle.numbers.specs.declared.refusal.Refusal.{Refusal}
use Rattle.numbers.specs.Refusal.{number_of}
use Rattle.formatter.specs.Answer.{refused}
use Rattle.formatter.specs.Reply as formatter
use Rattle.formatter.specs.Reply.{ListAnswer}
use Rattle.exports.specs.Comment.{records_of, texts_of, printed_of, code, counts_after}
use Rattle.numbers.specs.declared.mode.Mode.{Mode}
use Rattle.numbers.specs.declared.mode.UnknownMode.{UnknownMode}
use Rattle.numbers.specs.Mode.{found}
use Rattle.exports.specs.Print.{Reports}
use Rattle.exports.specs.declared.print.Report.{Report}

-- what a comment comes to that is printed in lent buffers
pub comment-answered :
    (k : ℕ) (s cs : List ℕ) (loc : Location) {place : Location} {rs ts : MutBor (List ℕ)} {a : Output} {p : Option Size} {rs' ts' cs' : List ℕ} {r : ℕ} → place ≡ loc
    → Says (comment k s place) (output rs ts (Some (no_size false))) a → p ≡ a.size → rs' ≡ a.records.now → ts' ≡ a.texts.now → cs' ≡ counts_after cs p → r ≡ code p
    → let o = printing (comment k s loc) (seen rs.now ts.now (Some (no_size false))) in
    (r ≡ code (printed_of o)) × ((cs' ≡ counts_after cs (printed_of o)) × ((rs' ≡ records_of o) × (ts' ≡ texts_of o)))
unfolding seen records_of texts_of printed_of
comment-answered k s cs loc {place} {rs} {ts} {a} {p} {rs'} {ts'} {cs'} {r} e h q u v w x = rw (u, v, ← (rw e at h.ran)) (go a.size (rw q at w) (rw q at x))
  where
    go : (z : Option Size) → cs' ≡ counts_after cs z → r ≡ code z
        → let o = seen a.records.now a.texts.now z in (r ≡ code (printed_of o)) × ((cs' ≡ counts_after cs (printed_of o)) × ((a.records.now ≡ records_of o) × (a.texts.now ≡ texts_of o)))
    go (Some z) t y = (y, (t, (refl, refl)))
    go None t y = (y, (t, (refl, refl)))

pub by_case : (r : Report) (a b : Result Count Refusal) → a ≡ b → Reports r (formatter.reply b) → Reports r (formatter.reply a)
by_case r a b h k = rw h k

pub by_list_case : (r : Report) (a b : ListAnswer) → a ≡ b → Reports r (formatter.reply_listed b) → Reports r (formatter.reply_listed a)
by_list_case r a b h k = rw h k

pub by_number : (r : Report) (n : ℕ) (f : Refusal) → n ≡ number_of f.reason → Reports r (refused n f.element.0) → Reports r (formatter.refused_for f)
by_number r n f h k = rw h at k

-- the mode by the case of what was found
module _ {r : Result Mode UnknownMode} {o : Maybe Mode} (h : found r ≡ o) where
  pub known : {m : Mode} → r ≡ Ok m → o ≡ some m
  known e = sym h ∙ ap found e

  pub unknown : {e : UnknownMode} → r ≡ Err e → o ≡ none
  unknown e = sym h ∙ ap found e
