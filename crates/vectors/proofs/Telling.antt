-- What is told of an answer, by whether it is the expected one.
use Rattle.std.proofs.Common.{◌≡◌, refl, sym, ◌∙◌, Bool, true, false, not, List, ℕ, take}
use Rattle.std.specs.Str.{bytes_eq}
use Rattle.std.proofs.lemmas.Slice.Eq.{bytes_eq-Decides}
use mathlib.Core.Bool.{false≢true}
use borrow.Author.Tests.{not-true, not-false}
use Rattle.numbers.specs.declared.mode.Mode.{Mode}
use Rattle.formatter.specs.declared.program.Response.{Response}
use Rattle.formatter.specs.Program.{Responds, number_told}
use Rattle.formatter.proofs.Responses.{front}
use Rattle.vectors.specs.Replies.{Replies}

module _ {m : Mode} {image entry exit want : List ℕ} {r : Response} {b : Bool} (h : Responds m image entry exit r) (e : b ≡ not (bytes_eq (take r.bytes exit) want)) where
  -- another than the expected one
  pub differing : b ≡ true → Replies m image want 255
  differing t = record {
    agrees = λ k. absurd (false≢true (sym (not-true _ (sym e ∙ t)) ∙ (bytes_eq-Decides _ _).1 (front h ∙ k)));
    differs = λ k. refl;
  }

  -- the expected one
  pub agreeing : b ≡ false → {n : ℕ} → n ≡ number_told r.refused → Replies m image want n
  agreeing f i = record {
    agrees = λ k. i ∙ h.number;
    differs = λ k. absurd (k (sym (front h) ∙ (bytes_eq-Decides _ _).0 (not-false _ (sym e ∙ f))));
  }
