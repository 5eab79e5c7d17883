-- The generated calls have their forms, and none begins or commits a transaction.
use Rattle.std.proofs.Common.{◌≡◌, ℕ, suc, ◌+◌, ◌/◌, ◌%◌, ◌<◌, ◌≤◌, ◌^◌, Bool, true, false, List, [], ◌∷◌, length, refl, ap, arith, ◌∙◌, ◌&&◌}
use Rattle.std.specs.Prelude.{All, IsTrue, codes, not, fold, if◌then◌else◌, ◌==◌}
use Rattle.std.proofs.lemmas.Bool.Decides.{nat_tests}
use Rattle.std.proofs.lemmas.List.Elements.{All-nil, All-cons}
use Rattle.litmus_syntax.specs.declared.call.Call.{Call}
use Rattle.litmus_syntax.specs.declared.call.Call.TheVariants.{Create, Write, Truncate, Attr, Mark}
use Rattle.litmus_syntax.specs.declared.call.Step.{Step}
use Rattle.litmus_syntax.specs.CallKinds.{is_setup_call, is_body_call, is_boundary, is_sync, sync_free}
use Rattle.litmus_syntax.specs.Forms.{is_formed_call, is_narrow, is_byte_text}
use Rattle.litmus_syntax.specs.Transactions.{calls_of, is_open, open_behind, suits, all_suit}
use Rattle.model_library.specs.Generated.{numbered, path_of, last_digit, generated_write, generated_change, generated_call, generated_calls, generated_setup}
use Rattle.model_library.proofs.Decimals.{mark_word, file_path, link_path, both}

-- what is asked of each call: it has its forms, it may stand in a body, and it begins or commits nothing
pub record IsFine (c : Call) : Type 0 where
  pub forms : is_body_call c && is_formed_call c ≡ true
  pub inside : is_boundary c ≡ false
  pub suits : suits false c ≡ true
  pub closed : open_behind false c ≡ false

narrow : (n : ℕ) → n < 2 ^ 32 → is_narrow n ≡ true
narrow n small = grind (arith, nat_tests, small)

digit_text : (n : ℕ) → is_byte_text (last_digit n) ≡ true
digit_text n = grind (arith, nat_tests)

place_narrow : (word : ℕ) → is_narrow (word / 5 % 8) ≡ true
place_narrow word = narrow (word / 5 % 8) (omega arith)

write_a : (n word : ℕ) → IsFine (generated_write (codes "a") n word)
write_a n word = record {
  forms = both (is_narrow (word / 5 % 8)) (is_byte_text (last_digit n)) (place_narrow word) (digit_text n);
  inside = refl;
  suits = refl;
  closed = refl;
}

write_b : (n word : ℕ) → IsFine (generated_write (codes "b") n word)
write_b n word = record {
  forms = both (is_narrow (word / 5 % 8)) (is_byte_text (last_digit n)) (place_narrow word) (digit_text n);
  inside = refl;
  suits = refl;
  closed = refl;
}

-- one of two calls
chosen : (b : Bool) (c d : Call) → IsFine c → IsFine d → IsFine (if b then c else d)
chosen true c d x y = x
chosen false c d x y = y

change_fine : (n word : ℕ) → n < 2 ^ 32 → IsFine (generated_change n word)
unfolding generated_change
change_fine n word small =
    chosen (word % 5 == 0) _ _ (write_a n word)
    (chosen (word % 5 == 1) _ _ (write_b n word)
    (chosen (word % 5 == 2) (Attr (path_of (codes "a")) (codes "k") n) _ (record { forms = narrow n small; inside = refl; suits = refl; closed = refl })
    (chosen (word % 5 == 3) (Truncate (path_of (codes "b")) 8) _ (record { forms = refl; inside = refl; suits = refl; closed = refl })
    (record { forms = link_path n small; inside = refl; suits = refl; closed = refl }))))

pub call_fine : (n word : ℕ) → n < 2 ^ 32 → IsFine (generated_call n word)
unfolding generated_call
call_fine n word small =
    chosen (n % 8 == 0) (Mark (numbered 109 n)) _ (record { forms = mark_word n small; inside = refl; suits = refl; closed = refl })
    (chosen (n % 8 == 1) (Create (path_of (numbered 110 n))) (generated_change n word) (record { forms = file_path n small; inside = refl; suits = refl; closed = refl }) (change_fine n word small))

-- all calls of a body
pub body_forms : (i : ℕ) (words : List ℕ) → i + length words < 2 ^ 32 → All (λ step. IsTrue (is_body_call step.call && is_formed_call step.call)) (generated_calls i words)
body_forms i [] small = All-nil (λ (step : Step). IsTrue (is_body_call step.call && is_formed_call step.call))
body_forms i (word ∷ words) small =
    let fine = call_fine i word (omega (arith, small)) in
    All-cons (λ (step : Step). IsTrue (is_body_call step.call && is_formed_call step.call)) (record { line = 8 + i; call = generated_call i word }) (generated_calls (i + 1) words)
    fine.forms (body_forms (i + 1) words (omega (arith, small)))

pub body_inside : (i : ℕ) (words : List ℕ) → i + length words < 2 ^ 32 → All (λ step. is_boundary step.call ≡ false) (generated_calls i words)
body_inside i [] small = All-nil (λ (step : Step). is_boundary step.call ≡ false)
body_inside i (word ∷ words) small =
    let fine = call_fine i word (omega (arith, small)) in
    All-cons (λ (step : Step). is_boundary step.call ≡ false) (record { line = 8 + i; call = generated_call i word }) (generated_calls (i + 1) words)
    fine.inside (body_inside (i + 1) words (omega (arith, small)))

pub body_suits : (i : ℕ) (words : List ℕ) → i + length words < 2 ^ 32 → all_suit false (calls_of (generated_calls i words)) ≡ true
body_suits i [] small = refl
body_suits i (word ∷ words) small =
    let fine = call_fine i word (omega (arith, small)) in
    both (suits false (generated_call i word)) (all_suit (open_behind false (generated_call i word)) (calls_of (generated_calls (i + 1) words))) fine.suits
    (ap (λ (inside : Bool). all_suit inside (calls_of (generated_calls (i + 1) words))) fine.closed ∙ body_suits (i + 1) words (omega (arith, small)))

pub body_closed : (i : ℕ) (words : List ℕ) → i + length words < 2 ^ 32 → is_open (calls_of (generated_calls i words)) ≡ false
body_closed i [] small = refl
body_closed i (word ∷ words) small =
    let fine = call_fine i word (omega (arith, small)) in
    ap (λ (inside : Bool). fold open_behind inside (calls_of (generated_calls (i + 1) words))) fine.closed ∙ body_closed (i + 1) words (omega (arith, small))

pub body_length : (i : ℕ) (words : List ℕ) → length (sync_free (calls_of (generated_calls i words))) ≤ length words
body_length i [] = omega arith
body_length i (word ∷ words) =
    let ih = body_length (i + 1) words in
    fewer (not (is_sync (generated_call i word))) (generated_call i word) (sync_free (calls_of (generated_calls (i + 1) words))) (length words) ih
  where
    fewer : (b : Bool) (c : Call) (cs : List Call) (n : ℕ) → length cs ≤ n → length (if b then c ∷ cs else cs) ≤ suc n
    fewer true c cs n h = omega (arith, h)
    fewer false c cs n h = omega (arith, h)

-- the setup
pub setup_forms : All (λ step. IsTrue (is_setup_call step.call && is_formed_call step.call)) generated_setup
setup_forms =
    let P : Step → Type 0 = λ step. IsTrue (is_setup_call step.call && is_formed_call step.call) in
    let create : List ℕ → ℕ → Step = λ name line. record { line = line; call = Create (path_of name) } in
    let write : List ℕ → ℕ → Step = λ name line. record { line = line; call = Write (path_of name) 0 (codes "00000000") } in
    let last : List Step = write (codes "b") 7 ∷ [] in
    let third : List Step = create (codes "b") 6 ∷ last in
    let second : List Step = write (codes "a") 5 ∷ third in
    All-cons P (create (codes "a") 4) second (refl {a = true})
    (All-cons P (write (codes "a") 5) third (refl {a = true})
    (All-cons P (create (codes "b") 6) last (refl {a = true}) (All-cons P (write (codes "b") 7) [] (refl {a = true}) (All-nil P))))
