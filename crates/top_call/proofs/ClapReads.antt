-- For `read_arguments`, `u64_in` and `quantum_in`: the numbers and the errors that the crate `clap` returns for the arguments are those of the definitions in
-- `Choices`; and the command of `cf_tool` is simple as `clap` defines it (`is_simple`, `is_simple_and_free`).
use Rattle.std.proofs.Common.{◌≡◌, ◌≤◌, ◌<◌, ◌^◌, ℕ, Bool, true, false, List, refl, arith, Option, Some, None, ◌≢◌, [], ◌∷◌, inl, inr}
use Rattle.std.specs.Prelude.{Result, Ok, Err, unwrap_or}
use Rattle.std.specs.Str.Parse.{ParsesUnsigned, digits_value, without_leading_plus}
use Rattle.clap.specs.Words.{Text, ReadsOne, is_simple, is_simple_and_free}
use Rattle.clap.specs.Kinds.{HasKind, Kinds}
use Rattle.clap.specs.Values.{kind_of}
use Rattle.clap.specs.declared.error.Error.{Error}
use Rattle.clap.specs.declared.error.kind.ErrorKind.TheVariants as kind
use Rattle.clap.specs.ValueTests.{accepts}
use Rattle.clap.proofs.OnLiterals.{clap_on_literals}
use Rattle.clap.proofs.ValueTestLemmas.{accepts-Accepts, Accepts-accepts}
use Rattle.top_call.specs.Choices.{quantum_in, u64_in}
use Rattle.top_call.specs.Command.{IsCfApp, NameList, any_u64, cf_app, quantum_parser}

text_number : {E : Type 0} (G : List ℕ → Result ℕ E → Type 0) → ((u : List ℕ) (x : Result ℕ E) → G u x → ParsesUnsigned 64 10 u x)
    → (t : Text) (r : Option ℕ) → ReadsOne G t r → unwrap_or r 0 ≡ u64_in (Some t)
text_number G only t (Some v) read =
    let parsed = only t (Ok v) read in
    let most : digits_value 10 (without_leading_plus t) ≤ 18446744073709551615 = omega (arith, parsed.0.1) in
    let passes = Accepts-accepts false any_u64 t (parsed.0.0, parsed.0.1, omega arith, most) in
    rw passes parsed.1
text_number G only t None read = go (accepts false any_u64 t) refl
  where
    go : (b : Bool) → accepts false any_u64 t ≡ b → 0 ≡ u64_in (Some t)
    go true e =
        let passes = accepts-Accepts false any_u64 t e in
        absurd (only t (Err read.0) read.1 (passes.0, passes.1))
    go false e = rw e refl

-- the number that `clap` returns for an option with this text, or for one without, is that of `u64_in`
pub number_of_text : {E : Type 0} (G : List ℕ → Result ℕ E → Type 0) → ((u : List ℕ) (x : Result ℕ E) → G u x → ParsesUnsigned 64 10 u x)
    → (o : Option Text) (r : Option ℕ) → (o ≡ None → r ≡ None) → ((t : Text) → o ≡ Some t → ReadsOne G t r) → unwrap_or r 0 ≡ u64_in o
number_of_text G only None r none some = rw (none refl) refl
number_of_text G only (Some t) r none some = text_number G only t r (some t refl)

-- the same for `quantum_in` and a number of 32 bits
module _ {E : Type 0} (G : List ℕ → Result ℕ E → Type 0) (only : (u : List ℕ) (x : Result ℕ E) → G u x → ParsesUnsigned 32 10 u x) where
  quantum_text : (t : Text) (r : Option ℕ) → ReadsOne G t r → 1 ≤ unwrap_or r 16 → unwrap_or r 16 ≤ 16384 → unwrap_or r 16 ≡ quantum_in (Some t)
  quantum_text t (Some v) read low high =
      let parsed = only t (Ok v) read in
      let least : 1 ≤ digits_value 10 (without_leading_plus t) = rw parsed.1 at low in
      let most : digits_value 10 (without_leading_plus t) ≤ 16384 = rw parsed.1 at high in
      let short : digits_value 10 (without_leading_plus t) < 2 ^ 64 = omega arith in
      let passes = Accepts-accepts false quantum_parser t (parsed.0.0, short, least, most) in
      rw passes parsed.1
  quantum_text t None read low high = go (accepts false quantum_parser t) refl
    where
      go : (b : Bool) → accepts false quantum_parser t ≡ b → 16 ≡ quantum_in (Some t)
      go true e =
          let passes = accepts-Accepts false quantum_parser t e in
          let most = passes.3 in
          absurd (only t (Err read.0) read.1 (passes.0, omega arith))
      go false e = rw e refl

  pub quantum_of_text : (o : Option Text) (r : Option ℕ) → (o ≡ None → r ≡ None) → ((t : Text) → o ≡ Some t → ReadsOne G t r) → 1 ≤ unwrap_or r 16
      → unwrap_or r 16 ≤ 16384 → unwrap_or r 16 ≡ quantum_in o
  quantum_of_text None r none some low high = rw (none refl) refl
  quantum_of_text (Some t) r none some low high = quantum_text t r (some t refl) low high

simple_shape : (modes managers : NameList) → is_simple (cf_app modes managers) ≡ true
unfolding clap_on_literals
simple_shape modes managers = refl

free_shape : (modes managers : NameList) → is_simple_and_free (cf_app modes managers) ≡ true
unfolding clap_on_literals
free_shape modes managers = refl

pub cf_is_simple : (app : _) → IsCfApp app → is_simple app ≡ true
cf_is_simple app h = rw h.app_is (simple_shape h.modes h.managers)

pub cf_is_free : (app : _) → IsCfApp app → is_simple_and_free app ≡ true
cf_is_free app h = rw h.app_is (free_shape h.modes h.managers)

-- if an error of `clap` isn't out of memory, it is a fault that was found in the arguments
pub another_kind_is_found : (kinds : Kinds) (e : Error) → HasKind kinds e → (kind_of e ≡ kind.OutOfMemory → ⊥) → kinds ≢ []
another_kind_is_found [] e (inl wanting) other none = other wanting
another_kind_is_found [] e (inr among) other none = among
another_kind_is_found (k ∷ ks) e has other none = cc
