-- Laws of a list without the longest end whose members all pass.
use mathlib.Core.Path.{◌≡◌, refl}
use mathlib.Core.Bool.{Bool, true, false, cond, ◌&&◌}
use mathlib.Core.List.{List, [], ◌∷◌, ◌++◌}
use Rattle.text.specs.Basic.{is_nil, drop_end}

-- a last member that passes goes
pub drop_end_white : {A : Type 0} (f : A → Bool) (gs : List A) (g : A) → f g ≡ true → drop_end f (gs ++ (g ∷ [])) ≡ drop_end f gs
unfolding drop_end
drop_end_white f [] g h = rw h
drop_end_white f (x ∷ gs) g h = rw (drop_end_white f gs g h)

-- a last member that does not pass keeps all
pub drop_end-stop : {A : Type 0} (f : A → Bool) (gs : List A) (g : A) → f g ≡ false → drop_end f (gs ++ (g ∷ [])) ≡ gs ++ (g ∷ [])
unfolding drop_end
drop_end-stop f [] g h = rw h
drop_end-stop {A} f (x ∷ gs) g h = rw (drop_end-stop f gs g h) (go (f x) gs)
  where
    go : (b : Bool) (gs : List A) → cond (b && is_nil (gs ++ (g ∷ []))) [] (x ∷ (gs ++ (g ∷ []))) ≡ x ∷ (gs ++ (g ∷ []))
    go true [] = refl
    go true (y ∷ ys) = refl
    go false ys = refl
