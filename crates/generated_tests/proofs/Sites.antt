-- Behind each call of a generated body one sync may stand.
use Rattle.std.proofs.Common.{◌≡◌, ℕ, zero, suc, ◌+◌, ◌%◌, ◌<◌, ◌≤◌, ◌==◌, Bool, true, false, if◌then◌else◌, List, [], ◌∷◌, length, map, take, fold, refl, ◌∙◌, ap, arith, length-append}
use Rattle.std.specs.List.{flat_map, range_with_len}
use Rattle.std.proofs.lemmas.Option.{slice_get_within}
use Rattle.litmus_syntax.specs.declared.call.Call.{Call}
use Rattle.litmus_syntax.specs.declared.call.Step.{Step}
use Rattle.litmus_syntax.specs.declared.site.Site.{Site}
use Rattle.litmus_syntax.specs.declared.site.SiteKind.TheVariants.{Sync}
use Rattle.litmus_syntax.specs.Transactions.{calls_of, is_open, open_behind}
use Rattle.fer_events.specs.Tables.{Trace}
use Rattle.call_events.specs.Resolved.{HasEvents}
use Rattle.sync_sites.specs.SiteLists.{syncs_behind, sites_behind, sites_upto, sites_of, AreTooMany}
use Rattle.model_library.specs.Generated.{begun, words_of, generated_change, generated_call, generated_calls, generated}
use Rattle.model_library.proofs.Limited.{words_length}
use Rattle.generated_tests.proofs.Tests.{events_long}

-- a generated call opens no transaction
chosen : (b : Bool) (c d : Call) → open_behind false c ≡ false → open_behind false d ≡ false → open_behind false (if b then c else d) ≡ false
chosen true c d x y = x
chosen false c d x y = y

change_closed : (i word : ℕ) → open_behind false (generated_change i word) ≡ false
unfolding generated_change
change_closed i word = chosen (word % 5 == 0) _ _ refl (chosen (word % 5 == 1) _ _ refl (chosen (word % 5 == 2) _ _ refl (chosen (word % 5 == 3) _ _ refl refl)))

call_closed : (i word : ℕ) → open_behind false (generated_call i word) ≡ false
unfolding generated_call
call_closed i word = chosen (i % 8 == 0) _ _ refl (chosen (i % 8 == 1) _ _ refl (change_closed i word))

-- nor do the first of these calls
first_closed : (k i : ℕ) (words : List ℕ) → is_open (take k (calls_of (generated_calls i words))) ≡ false
first_closed zero i words = refl
first_closed (suc k) i [] = refl
first_closed (suc k) i (word ∷ words) =
    ap (λ (inside : Bool). fold open_behind inside (take k (calls_of (generated_calls (i + 1) words)))) (call_closed i word) ∙ first_closed k (i + 1) words

one_each : {X : Type 0} (f : ℕ → List X) (low n : ℕ) → ((k : ℕ) → length (f k) ≡ 1) → length (flat_map f (range_with_len low n)) ≡ n
one_each f low zero each = refl
one_each f low (suc n) each = omega (arith, each low, one_each f (low + 1) n each, length-append (f low) (flat_map f (range_with_len (low + 1) n)))

calls_long : (i : ℕ) (words : List ℕ) → length (generated_calls i words) ≡ length words
calls_long i [] = refl
calls_long i (word ∷ words) = ap suc (calls_long (i + 1) words)

one_site : (words : List ℕ) (t : Trace) (k : ℕ) → length (sites_behind Sync (generated_calls 1 words) t k) ≡ 1
one_site words t k =
    ap (λ (inside : Bool). length {A = Site} (if inside then [] else map (λ call. record { after = k; call = call }) (syncs_behind Sync k t))) (first_closed k 1 words)

pub sites_long : (seed calls : ℕ) (t : Trace) → length (sites_of Sync (generated seed calls).body t) ≡ calls
unfolding generated
sites_long seed calls t =
    let words : List ℕ = words_of (begun seed) calls in
    let body : List Step = generated_calls 1 words in
    one_each (sites_behind Sync body t) 1 (length body) (one_site words t) ∙ calls_long 1 words ∙ words_length (begun seed) calls

-- as many as there are events, so that both together are never too many
pub few_sites : (seed calls line : ℕ) (t : Trace) → calls ≤ 32 → HasEvents (generated seed calls) [] t → AreTooMany Sync (generated seed calls).body t line → ⊥
unfolding generated
few_sites seed calls line t few has many =
    let words : List ℕ = words_of (begun seed) calls in
    let body : List Step = generated_calls 1 words in
    let there : many.before < length body = slice_get_within body many.before many.step many.there in
    let long : length body ≡ calls = calls_long 1 words ∙ words_length (begun seed) calls in
    let events : length t.events ≡ calls = events_long seed calls t few has in
    let upto : length (sites_upto Sync body t (many.before + 1)) ≡ many.before + 1 = one_each (sites_behind Sync body t) 1 (many.before + 1) (one_site words t) in
    omega (arith, there, long, events, upto, few, many.over)
