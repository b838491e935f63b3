-- For opening a heap: how a fact about a `Result` passes through `ok()` and `?`.
use Rattle.std.proofs.Common.{◌≡◌, Some, None, sym, ◌∙◌, subst}
use Rattle.std.specs.Prelude.{IfOk, IfSome, OnOk, Option, Result, Ok, Err}
use Rattle.std.proofs.lemmas.Option.{same_Some}
use Rattle.core.specs.Result.{result_ok}

-- a clause on `Ok` holds if `ok()` returned a value
pub at_ok : {T E : Type 0} (r : Result T E) (P : Type 0) → OnOk r P → (o : Option T) → o ≡ result_ok r → (t : T) → o ≡ Some t → P
at_ok (Ok u) P p o e t f = p
at_ok (Err x) P p o e t f = absurd (let z : None ≡ Some t = sym e ∙ f in cc)

-- a property of the value of `Ok` holds of the value that `ok()` returned
pub ok_value : {T E : Type 0} (r : Result T E) (P : T → Type 0) → IfOk r P → (o : Option T) → o ≡ result_ok r → (t : T) → o ≡ Some t → P t
ok_value (Ok u) P p o e t f = subst P (same_Some u t (sym e ∙ f)) p
ok_value (Err x) P p o e t f = absurd (let z : None ≡ Some t = sym e ∙ f in cc)

-- a clause on `Some` holds of the value that is there
pub at_some : {T : Type 0} (o : Option T) (P : T → Type 0) → IfSome o P → (t : T) → o ≡ Some t → P t
at_some o P p t e = subst (λ q. IfSome q P) e p

-- if v has the property P, and the box of r holds v, then the box that `ok()` returned, if it returned one, has P
pub in_box : {B V E : Type 0} (r : Result B E) (value : B → V) (v : V) (P : V → Type 0) → P v → IfOk r (λ b. value b ≡ v) → (o : Option B) → o ≡ result_ok r
    → IfSome o (λ b. P (value b))
in_box (Ok b) value v P p is o e = subst (λ q. IfSome q (λ b. P (value b))) (sym e) (subst P (sym is) p)
in_box (Err x) value v P p is o e = subst (λ q. IfSome q (λ b. P (value b))) (sym e) tt
