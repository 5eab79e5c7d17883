-- The calls of a generated body: which call stands at a place, and that none opens a transaction.
use Rattle.std.proofs.Common.{◌≡◌, ℕ, zero, suc, ◌+◌, ◌%◌, ◌==◌, Bool, true, false, if◌then◌else◌, List, [], ◌∷◌, length, take, fold, Some, None, slice_get, refl, sym, ◌∙◌, ap, arith}
use Rattle.std.specs.Prelude.{codes}
use Rattle.std.proofs.lemmas.Bool.Decides.{nat_tests}
use Rattle.std.proofs.lemmas.Option.{same_Some}
use Rattle.rand_pcg.specs.Lcg.{Lcg}
use Rattle.rand_pcg.specs.Pcg.{pcg32}
use Rattle.litmus_syntax.specs.declared.call.Call.{Call}
use Rattle.litmus_syntax.specs.declared.call.Call.TheVariants.{Create, Write, Truncate, Link, Attr, Mark}
use Rattle.litmus_syntax.specs.declared.call.Step.{Step}
use Rattle.litmus_syntax.specs.Transactions.{calls_of, open_behind, is_open}
use Rattle.model_library.specs.Generated.{words_of, numbered, path_of, generated_change, generated_call, generated_calls}

-- a property of each of two calls is one of the call that a test chooses
pub chosen : (P : Call → Type 0) (b : Bool) (c d : Call) → P c → P d → P (if b then c else d)
chosen P true c d x y = x
chosen P false c d x y = y

-- a property of each kind of call that is generated
pub change_has : (P : Call → Type 0) (i word : ℕ) → ((path : List (List ℕ)) (at b : ℕ) → P (Write path at (b ∷ []))) → ((path : List (List ℕ)) (key : List ℕ) (value : ℕ) → P (Attr path key value))
    → ((path : List (List ℕ)) (size : ℕ) → P (Truncate path size)) → ((from to : List (List ℕ)) → P (Link from to)) → P (generated_change i word)
unfolding generated_change
change_has P i word write attr truncate link =
    chosen P (word % 5 == 0) _ _ (write (path_of (codes "a")) _ _)
    (chosen P (word % 5 == 1) _ _ (write (path_of (codes "b")) _ _)
    (chosen P (word % 5 == 2) (Attr (path_of (codes "a")) (codes "k") i) _ (attr (path_of (codes "a")) (codes "k") i)
    (chosen P (word % 5 == 3) (Truncate (path_of (codes "b")) 8) _ (truncate (path_of (codes "b")) 8)
    (link (path_of (codes "a")) (path_of (numbered 108 i))))))

-- the last of each eight calls is a mark
pub is_mark : (i word : ℕ) → i % 8 ≡ 0 → generated_call i word ≡ Mark (numbered 109 i)
unfolding generated_call
is_mark i word last = let test : (i % 8 == 0) ≡ true = grind (arith, nat_tests) in rw test refl

-- the first makes a file
pub is_create : (i word : ℕ) → i % 8 ≡ 1 → generated_call i word ≡ Create (path_of (numbered 110 i))
unfolding generated_call
is_create i word first =
    let other : (i % 8 == 0) ≡ false = grind (arith, nat_tests) in
    let test : (i % 8 == 1) ≡ true = grind (arith, nat_tests) in
    rw (other, test) refl

-- a property of each call that is generated
pub call_has : (P : Call → Type 0) (i word : ℕ) → P (Mark (numbered 109 i)) → P (Create (path_of (numbered 110 i))) → P (generated_change i word) → P (generated_call i word)
unfolding generated_call
call_has P i word mark create change = chosen P (i % 8 == 0) (Mark (numbered 109 i)) _ mark (chosen P (i % 8 == 1) (Create (path_of (numbered 110 i))) (generated_change i word) create change)

opens_nothing : (i word : ℕ) → open_behind false (generated_call i word) ≡ false
opens_nothing i word =
    let P : Call → Type 0 = λ c. open_behind false c ≡ false in
    call_has P i word refl refl (change_has P i word (λ path at b. refl) (λ path key value. refl) (λ path size. refl) (λ from to. refl))

-- nowhere in a generated body a transaction is open
pub never_open : (i : ℕ) (words : List ℕ) (k : ℕ) → is_open (take k (calls_of (generated_calls i words))) ≡ false
never_open i words zero = refl
never_open i [] (suc k) = refl
never_open i (word ∷ words) (suc k) =
    ap (λ (inside : Bool). fold open_behind inside (take k (calls_of (generated_calls (i + 1) words)))) (opens_nothing i word) ∙ never_open (i + 1) words k

pub length-generated_calls : (i : ℕ) (words : List ℕ) → length (generated_calls i words) ≡ length words
length-generated_calls i [] = refl
length-generated_calls i (word ∷ words) = ap suc (length-generated_calls (i + 1) words)

pub length-words_of : (g : Lcg) (n : ℕ) → length (words_of g n) ≡ n
unfolding words_of
length-words_of g zero = refl
length-words_of g (suc n) = ap suc (length-words_of (pcg32 g).1 n)

-- at place j, counted from 0, stands the call whose number is j more than that of the first
call_of_place : (i : ℕ) (words : List ℕ) (j : ℕ) (step : Step) → slice_get (generated_calls i words) j ≡ Some step → (word : ℕ) × (step.call ≡ generated_call (i + j) word)
call_of_place i [] j step h = absurd (let bad : None ≡ Some step = h in cc)
call_of_place i (word ∷ words) zero step h =
    let same = same_Some _ step h in
    let e : i ≡ i + zero = omega arith in
    (word, ap (λ (s : Step). s.call) (sym same) ∙ ap (λ (k : ℕ). generated_call k word) e)
call_of_place i (word ∷ words) (suc j) step h =
    let found = call_of_place (i + 1) words j step h in
    let e : i + 1 + j ≡ i + suc j = omega arith in
    (found.0, found.1 ∙ ap (λ (k : ℕ). generated_call k found.0) e)

-- the calls of a body are numbered from 1
pub call_at_place : (words : List ℕ) (j : ℕ) (step : Step) → slice_get (generated_calls 1 words) j ≡ Some step → (word : ℕ) × (step.call ≡ generated_call (suc j) word)
call_at_place words j step h =
    let found = call_of_place 1 words j step h in
    let e : 1 + j ≡ suc j = omega arith in
    (found.0, found.1 ∙ ap (λ (k : ℕ). generated_call k found.0) e)
