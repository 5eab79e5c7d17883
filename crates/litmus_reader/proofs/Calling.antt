-- Calls and the question as a draft takes them.
use Rattle.std.proofs.Common.{◌≡◌, ◌⊎◌, ℕ, ◌+◌, ◌<◌, ◌≤◌, Bool, true, false, not, ◌&&◌, cond, List, [], ◌∷◌, ◌++◌, length, map, fold, Some, None, IsTrue, if◌then◌else◌, refl, sym, ◌∙◌, ap, subst, inl, inr, append_assoc, length-append, arith}
use Rattle.std.proofs.lemmas.List.{length-map, map-append}
use Rattle.std.proofs.lemmas.List.Sums.{fold_push}
use Rattle.std.proofs.lemmas.List.Elements.{All-push, filter-append, Contains-append_right}
use Rattle.std.proofs.lemmas.Option.{none-some, same_Some}
use Rattle.std.proofs.lemmas.Bool.{and_from, false≢true}
use Rattle.litmus_syntax.specs.declared.call.Call.{Call}
use Rattle.litmus_syntax.specs.declared.call.Step.{Step}
use Rattle.litmus_syntax.specs.declared.pred.Pred.{Pred}
use Rattle.litmus_syntax.specs.CallKinds.{is_sync, is_setup_call, is_body_call, sync_free}
use Rattle.litmus_syntax.specs.LitmusText.{question_word}
use Rattle.litmus_syntax.specs.Transactions.{calls_of, open_behind, is_open, suits, all_suit}
use Rattle.lexeme_reader.specs.declared.reading.Lexeme.{Lexeme}
use Rattle.lexeme_reader.specs.declared.reading.Lexeme.TheVariants.{Word, Number, Sign}
use Rattle.predicate_reader.specs.Counts.{IsShort}
use Rattle.predicate_reader.specs.Predicates.{AreInRange, IsPredicate}
use Rattle.litmus_reader.specs.declared.statements.Form.TheVariants as form
use Rattle.litmus_reader.specs.declared.stages.Stage.{Stage}
use Rattle.litmus_reader.specs.declared.stages.Stage.TheVariants.{Start, InSetup, InBody, End}
use Rattle.litmus_reader.specs.declared.draft.Draft.{Draft}
use Rattle.litmus_reader.specs.declared.draft.Asked.{Asked}
use Rattle.litmus_reader.specs.declared.fault.LitmusKind.{LitmusKind}
use Rattle.litmus_reader.specs.declared.fault.LitmusKind.TheVariants.{NotHere, BadPredicate, TooLong}
use Rattle.litmus_reader.specs.Calls.{calls_in, body_calls}
use Rattle.litmus_reader.specs.Stages.{stage_behind}
use Rattle.litmus_reader.specs.Statements.{Setup, Body, Called, Question, statement_lexemes}
use Rattle.litmus_reader.specs.TakenLines.{IsFirstKind}
use Rattle.line_files.specs.StatedLines.{stated_in, statements}
use Rattle.litmus_reader.specs.StatedLines.{Stated}
use Rattle.litmus_reader.specs.WholeFiles.{stated_step}
use Rattle.litmus_reader.specs.Drafts.{step_in, StandsAt, IsExpected, IsDraft}
use Rattle.litmus_reader.specs.TakenLines.{IsTaken}
use Rattle.litmus_reader.proofs.Fronts.{setup_calls_so_far, body_calls_so_far}
use Rattle.litmus_reader.proofs.Faulting.{Lacks, faultless, ranges, fault_here, fault_long, fault_asks}
use Rattle.litmus_reader.proofs.Drafting.{has, order, reached_next, version_next, block_next, of_version_next, narrow_next, formed_next}

-- a call stands in the setup or in the body
pub call_stage : (p q : Stage) → stage_behind p form.Call ≡ Some q → ((p ≡ InSetup) × (q ≡ InSetup)) ⊎ ((p ≡ InBody) × (q ≡ InBody))
call_stage InSetup q next = inl (refl, sym (same_Some InSetup q next))
call_stage InBody q next = inr (refl, sym (same_Some InBody q next))
call_stage p q next = absurd (none-some q next)

pub in_body : (p q : Stage) → stage_behind p form.Call ≡ Some q → q ≡ InBody → p ≡ InBody
in_body p q next is = elim (call_stage p q next) [ inl both ↦ let e : InSetup ≡ InBody = sym both.1 ∙ is in absurd cc | inr both ↦ both.0 ]

pub in_setup : (p q : Stage) → stage_behind p form.Call ≡ Some q → (q ≡ InBody → ⊥) → (p ≡ InSetup) × (q ≡ InSetup)
in_setup p q next other = elim (call_stage p q next) [ inl both ↦ both | inr both ↦ absurd (other both.1) ]

-- one more call of the setup, and one of the body
setup_call_stands : (stated : List Stated) (d : Draft) (line : ℕ) (c : Call) → StandsAt InSetup stated d
    → StandsAt InSetup (stated ++ stated_in line (Called c) ∷ []) (record d { setup = d.setup ++ step_in line c ∷ [] })
setup_call_stands stated d line c (front, at_setup, f, is, body, unasked) = (
  front,
  at_setup,
  f,
  ap (λ (st : List Stated). st ++ stated_in line (Called c) ∷ []) is
      ∙ append_assoc front (stated_in at_setup Setup ∷ map stated_step d.setup) (stated_in line (Called c) ∷ [])
      ∙ ap (λ (ss : List Stated). front ++ stated_in at_setup Setup ∷ ss) (sym (map-append stated_step d.setup (step_in line c ∷ []))),
  body,
  unasked,
)

body_call_stands : (stated : List Stated) (d : Draft) (line n : ℕ) (b : Bool) (c : Call) → StandsAt InBody stated d
    → StandsAt InBody (stated ++ stated_in line (Called c) ∷ []) (record d { body = d.body ++ step_in line c ∷ []; changes = n; in_transaction = b })
body_call_stands stated d line n b c (front, setup, at_body, f, s, is, unasked) = (
  front,
  setup,
  at_body,
  f,
  s,
  ap (λ (st : List Stated). st ++ stated_in line (Called c) ∷ []) is
      ∙ append_assoc (front ++ setup) (stated_in at_body Body ∷ map stated_step d.body) (stated_in line (Called c) ∷ [])
      ∙ ap (λ (ss : List Stated). front ++ setup ++ stated_in at_body Body ∷ ss) (sym (map-append stated_step d.body (step_in line c ∷ []))),
  unasked,
)

-- what is known of the calls when there is one more
pub length-more : (steps : List Step) (step : Step) → length (steps ++ step ∷ []) ≡ length steps + 1
length-more steps step = length-append steps (step ∷ [])

calls-more : (steps : List Step) (line : ℕ) (c : Call) → calls_of (steps ++ step_in line c ∷ []) ≡ calls_of steps ++ c ∷ []
calls-more steps line c = map-append (λ (step : Step). step.call) steps (step_in line c ∷ [])

one_change : (c : Call) (b : Bool) → is_sync c ≡ b → length (sync_free (c ∷ [])) ≡ (if b then 0 else 1)
one_change c true h = ap (λ (x : Bool). length (cond (not x) (c ∷ []) [])) h
one_change c false h = ap (λ (x : Bool). length (cond (not x) (c ∷ []) [])) h

changes-more : (steps : List Step) (line : ℕ) (c : Call) (b : Bool) → is_sync c ≡ b
    → length (sync_free (calls_of (steps ++ step_in line c ∷ []))) ≡ length (sync_free (calls_of steps)) + (if b then 0 else 1)
changes-more steps line c b h =
    ap (λ (cs : List Call). length (sync_free cs)) (calls-more steps line c)
    ∙ ap (λ (cs : List Call). length cs) (filter-append (λ (x : Call). not (is_sync x)) (calls_of steps) (c ∷ []))
    ∙ length-append (sync_free (calls_of steps)) (sync_free (c ∷ []))
    ∙ ap (λ (n : ℕ). length (sync_free (calls_of steps)) + n) (one_change c b h)

few_more : (n : ℕ) (b : Bool) → n ≤ 128 → (b ≡ false → n < 128) → (if b then n else n + 1) ≤ 128
few_more n true all few = all
few_more n false all few = let below = few refl in omega arith

counted : (n : ℕ) (b : Bool) → (if b then n else n + 1) ≡ n + (if b then 0 else 1)
counted n true = omega arith
counted n false = refl

open-more : (steps : List Step) (line : ℕ) (c : Call) → is_open (calls_of (steps ++ step_in line c ∷ [])) ≡ open_behind (is_open (calls_of steps)) c
open-more steps line c = ap is_open (calls-more steps line c) ∙ fold_push open_behind false (calls_of steps) c

-- calls that suit, and one behind them
pub suit-append : (b : Bool) (xs ys : List Call) → all_suit b (xs ++ ys) ≡ (all_suit b xs && all_suit (fold open_behind b xs) ys)
suit-append b [] ys = refl
suit-append b (x ∷ xs) ys =
    ap (λ (t : Bool). suits b x && t) (suit-append (open_behind b x) xs ys)
    ∙ sym (and_assoc (suits b x) (all_suit (open_behind b x) xs) (all_suit (fold open_behind (open_behind b x) xs) ys))
  where
    and_assoc : (a b c : Bool) → ((a && b) && c) ≡ (a && (b && c))
    and_assoc true b c = refl
    and_assoc false b c = refl

suits-more : (steps : List Step) (line : ℕ) (c : Call) → IsTrue (all_suit false (calls_of steps)) → suits (is_open (calls_of steps)) c ≡ true
    → IsTrue (all_suit false (calls_of (steps ++ step_in line c ∷ [])))
suits-more steps line c all one =
    ap (all_suit false) (calls-more steps line c) ∙ suit-append false (calls_of steps) (c ∷ [])
    ∙ and_from (all_suit false (calls_of steps)) (suits (is_open (calls_of steps)) c && true) all (and_from (suits (is_open (calls_of steps)) c) true one refl)

-- in the setup, a call is misplaced that may not stand there, and too much behind 256 others
setup_here : (stated : List Stated) (d : Draft) (c : Call) → StandsAt InSetup stated d → is_setup_call c ≡ true → Lacks (statements stated) (Called c) NotHere
setup_here stated d c h fits (inl (open_still, other)) = false≢true (sym other ∙ fits)
setup_here stated d c h fits (inr (begun, other)) = false≢true (sym (setup_calls_so_far stated d h).0 ∙ begun)

pub setup_count : (stated : List Stated) (d : Draft) → StandsAt InSetup stated d → length (calls_in (statements stated)) ≡ length d.setup
setup_count stated d h = ap (λ (cs : List Call). length cs) (setup_calls_so_far stated d h).1 ∙ length-map d.setup (λ (step : Step). step.call)

setup_few : (stated : List Stated) (d : Draft) (c : Call) → StandsAt InSetup stated d → length d.setup < 256 → Lacks (statements stated) (Called c) TooLong
setup_few stated d c h few (inl (open_still, many)) = omega (arith, setup_count stated d h)
setup_few stated d c h few (inr (begun, other, many)) = false≢true (sym (setup_calls_so_far stated d h).0 ∙ begun)

-- a call of the setup was taken
pub setup_call_taken : (stated : List Stated) (d e : Draft) (line : ℕ) (c : Call) (q : Stage) → IsDraft stated d → IsExpected d q (Called c)
    → (q ≡ InBody → ⊥) → is_setup_call c ≡ true → length d.setup < 256
    → e ≡ record d { stage = q; setup = d.setup ++ step_in line c ∷ [] } → IsTaken stated line (Called c) e
setup_call_taken stated d e line c q h x other fits few is =
    let at = in_setup d.stage q x.leads other in
    let before = statements stated in
    let s = Called c in
    let here = subst (λ (p : Stage). StandsAt p stated d) at.0 h.stands in
    subst (λ (y : Draft). IsTaken stated line s y) (sym is) (record {
      faultless = faultless before s (has stated d line s q h x) (order stated d line s q h x) (ranges before s x.in_range (λ b. b)) (setup_here stated d c here fits)
          (setup_few stated d c here few) (λ b. b);
      kept = record {
        stands = subst (λ (p : Stage). StandsAt p (stated ++ stated_in line s ∷ []) (record d { stage = q; setup = d.setup ++ step_in line c ∷ [] })) (sym at.1)
            (setup_call_stands stated d line c here);
        reached = reached_next stated d line s q h x;
        version = version_next stated d line s q h x (λ e. let same : InSetup ≡ Start = sym at.0 ∙ e in absurd cc);
        block = block_next stated d line s q h x;
        of_version = of_version_next stated d line s q h x;
        narrow = narrow_next stated d line s q h x;
        formed = formed_next stated d line s q h x;
        some_sector = h.some_sector;
        small_sector = h.small_sector;
        small_block = h.small_block;
        setup = All-push (λ (step : Step). is_setup_call step.call ≡ true) d.setup (step_in line c) h.setup fits;
        few_setup = omega (arith, length-more d.setup (step_in line c));
        body = h.body;
        changes = h.changes;
        few_body = h.few_body;
        opened = h.opened;
        placed = h.placed;
      };
    })

pub setup_call_fault : (stated : List Stated) (d : Draft) (c : Call) (q : Stage) (kind : LitmusKind) → IsDraft stated d → IsExpected d q (Called c)
    → (q ≡ InBody → ⊥)
    → ((kind ≡ NotHere) × (is_setup_call c ≡ false)) ⊎ ((kind ≡ TooLong) × (is_setup_call c ≡ true) × (256 ≤ length d.setup))
    → IsFirstKind (statements stated) (Called c) kind
setup_call_fault stated d c q kind h x other bad =
    let before = statements stated in
    let s = Called c in
    let here = subst (λ (p : Stage). StandsAt p stated d) (in_setup d.stage q x.leads other).0 h.stands in
    let known = has stated d 0 s q h x in
    let fits_order = order stated d 0 s q h x in
    let range = ranges before s x.in_range (λ b. b) in
    let open_still = (setup_calls_so_far stated d here).0 in
    elim bad [
      | inl (is, no_setup) ↦ subst (IsFirstKind before s) (sym is) (fault_here before s known fits_order range (inl (open_still, no_setup)))
      | inr (is, fits, many) ↦
          subst (IsFirstKind before s) (sym is) (fault_long before s known fits_order range (setup_here stated d c here fits)
          (inl (open_still, let count = setup_count stated d here in omega arith)))
    ]

-- in the body, a call is misplaced that may not stand there, and too much behind 128 others that aren't syncs
module _ (stated : List Stated) (d : Draft) (h : IsDraft stated d) (here : StandsAt InBody stated d) where
  inside_is : is_open (body_calls (statements stated)) ≡ d.in_transaction
  inside_is = ap is_open (body_calls_so_far stated d here).1 ∙ sym h.opened

  body_here : (c : Call) → is_body_call c ≡ true → suits d.in_transaction c ≡ true → Lacks (statements stated) (Called c) NotHere
  body_here c fits suit (inl (open_still, other)) = false≢true (sym open_still ∙ (body_calls_so_far stated d here).0)
  body_here c fits suit (inr (begun, inl other)) = false≢true (sym other ∙ fits)
  body_here c fits suit (inr (begun, inr other)) = false≢true (sym other ∙ ap (λ (b : Bool). suits b c) inside_is ∙ suit)

  pub body_count : length (sync_free (body_calls (statements stated))) ≡ d.changes
  body_count = ap (λ (cs : List Call). length (sync_free cs)) (body_calls_so_far stated d here).1 ∙ sym h.changes

  body_few : (c : Call) → (is_sync c ≡ false → d.changes < 128) → Lacks (statements stated) (Called c) TooLong
  body_few c few (inl (open_still, many)) = false≢true (sym open_still ∙ (body_calls_so_far stated d here).0)
  body_few c few (inr (begun, change, many)) = let below = few change in omega (arith, body_count)

  pub body_no_place : (c : Call) → (is_body_call c ≡ false) ⊎ (suits d.in_transaction c ≡ false)
      → (is_body_call c ≡ false) ⊎ (suits (is_open (body_calls (statements stated))) c ≡ false)
  body_no_place c (inl other) = inl other
  body_no_place c (inr other) = inr (ap (λ (b : Bool). suits b c) inside_is ∙ other)

-- a call of the body was taken
pub body_call_taken : (stated : List Stated) (d e : Draft) (line : ℕ) (c : Call) (q : Stage) → IsDraft stated d → IsExpected d q (Called c)
    → q ≡ InBody → is_body_call c ≡ true → suits d.in_transaction c ≡ true → (is_sync c ≡ false → d.changes < 128)
    → e ≡ record d {
      stage = q;
      body = d.body ++ step_in line c ∷ [];
      changes = (if is_sync c then d.changes else d.changes + 1);
      in_transaction = open_behind d.in_transaction c;
    } → IsTaken stated line (Called c) e
body_call_taken stated d e line c q h x inside fits suit few is =
    let before = statements stated in
    let s = Called c in
    let at = in_body d.stage q x.leads inside in
    let here = subst (λ (p : Stage). StandsAt p stated d) at h.stands in
    let now = if is_sync c then d.changes else d.changes + 1 in
    let behind = open_behind d.in_transaction c in
    subst (λ (y : Draft). IsTaken stated line s y) (sym is) (record {
      faultless = faultless before s (has stated d line s q h x) (order stated d line s q h x) (ranges before s x.in_range (λ b. b)) (body_here stated d h here c fits suit)
          (body_few stated d h here c few) (λ b. b);
      kept = record {
        stands = subst (λ (p : Stage). StandsAt p (stated ++ stated_in line s ∷ []) (record d { stage = q; body = d.body ++ step_in line c ∷ []; changes = now; in_transaction = behind })) (sym inside)
            (body_call_stands stated d line now behind c here);
        reached = reached_next stated d line s q h x;
        version = version_next stated d line s q h x (λ e. let same : InBody ≡ Start = sym at ∙ e in absurd cc);
        block = block_next stated d line s q h x;
        of_version = of_version_next stated d line s q h x;
        narrow = narrow_next stated d line s q h x;
        formed = formed_next stated d line s q h x;
        some_sector = h.some_sector;
        small_sector = h.small_sector;
        small_block = h.small_block;
        setup = h.setup;
        few_setup = h.few_setup;
        body = All-push (λ (step : Step). is_body_call step.call ≡ true) d.body (step_in line c) h.body fits;
        changes = ap (λ (n : ℕ). if is_sync c then n else n + 1) h.changes ∙ counted (length (sync_free (calls_of d.body))) (is_sync c)
            ∙ sym (changes-more d.body line c (is_sync c) refl);
        few_body = few_more d.changes (is_sync c) h.few_body few;
        opened = ap (λ (b : Bool). open_behind b c) h.opened ∙ sym (open-more d.body line c);
        placed = suits-more d.body line c h.placed (ap (λ (b : Bool). suits b c) (sym h.opened) ∙ suit);
      };
    })

pub body_call_fault : (stated : List Stated) (d : Draft) (c : Call) (q : Stage) (kind : LitmusKind) → IsDraft stated d → IsExpected d q (Called c)
    → q ≡ InBody
    → ((kind ≡ NotHere) × ((is_body_call c ≡ false) ⊎ (suits d.in_transaction c ≡ false)))
    ⊎ ((kind ≡ TooLong) × (is_body_call c ≡ true) × (suits d.in_transaction c ≡ true) × (is_sync c ≡ false) × (128 ≤ d.changes))
    → IsFirstKind (statements stated) (Called c) kind
body_call_fault stated d c q kind h x inside bad =
    let before = statements stated in
    let s = Called c in
    let here = subst (λ (p : Stage). StandsAt p stated d) (in_body d.stage q x.leads inside) h.stands in
    let known = has stated d 0 s q h x in
    let fits_order = order stated d 0 s q h x in
    let range = ranges before s x.in_range (λ b. b) in
    let begun = (body_calls_so_far stated d here).0 in
    elim bad [
      | inl (is, no_place) ↦
          subst (IsFirstKind before s) (sym is) (fault_here before s known fits_order range (inr (begun, body_no_place stated d h here c no_place)))
      | inr (is, fits, suit, change, many) ↦
          subst (IsFirstKind before s) (sym is) (fault_long before s known fits_order range (body_here stated d h here c fits suit)
          (inr (begun, change, let count = body_count stated d h here in omega arith)))
    ]

-- the question
question_stage : (p q : Stage) → stage_behind p form.Question ≡ Some q → (p ≡ InBody) × (q ≡ End)
question_stage InBody q next = (refl, sym (same_Some End q next))
question_stage p q next = absurd (none-some q next)

asked_stands : (stated : List Stated) (d : Draft) (a : Asked) (asked : List Lexeme) → StandsAt InBody stated d → IsShort asked → IsPredicate asked a.pred
    → is_open (calls_of d.body) ≡ false → StandsAt End (stated ++ stated_in a.line (Question a.want asked) ∷ []) (record d { question = Some a })
asked_stands stated d a asked (front, setup, at_body, f, s, is, unasked) short pred closed = (
  front,
  setup,
  at_body,
  f,
  s,
  asked,
  a,
  ap (λ (st : List Stated). st ++ stated_in a.line (Question a.want asked) ∷ []) is,
  refl,
  short,
  pred,
  closed,
)

pub asked_in_range : (want : Bool) (asked : List Lexeme) → AreInRange (statement_lexemes (Question want asked)) → AreInRange asked
asked_in_range want asked small = λ there. small (Contains-append_right (Word (question_word want) ∷ Sign 58 ∷ []) asked (Number None) there)

not_inside : (b : Bool) → not b ≡ true → b ≡ false
not_inside true e = absurd (false≢true e)
not_inside false e = refl

pub question_taken : (stated : List Stated) (d e : Draft) (line : ℕ) (want : Bool) (asked : List Lexeme) (pred : Pred) (q : Stage) → IsDraft stated d
    → IsExpected d q (Question want asked) → IsShort asked → IsPredicate asked pred
    → e ≡ record d { stage = q; question = Some (record { line = line; want = want; pred = pred }) } → IsTaken stated line (Question want asked) e
question_taken stated d e line want asked pred q h x short is_pred is =
    let before = statements stated in
    let s = Question want asked in
    let at = question_stage d.stage q x.leads in
    let here = subst (λ (p : Stage). StandsAt p stated d) at.0 h.stands in
    let a : Asked = record { line = line; want = want; pred = pred } in
    let closed = sym h.opened ∙ not_inside d.in_transaction (x.paired at.0) in
    subst (λ (y : Draft). IsTaken stated line s y) (sym is) (record {
      faultless = faultless before s (has stated d line s q h x) (order stated d line s q h x) (ranges before s x.in_range (λ b. b)) (λ b. b) (λ long. long short)
          (λ none. none pred is_pred);
      kept = record {
        stands = subst (λ (p : Stage). StandsAt p (stated ++ stated_in line s ∷ []) (record d { stage = q; question = Some a })) (sym at.1)
            (asked_stands stated d a asked here short is_pred closed);
        reached = reached_next stated d line s q h x;
        version = version_next stated d line s q h x (λ e. let same : InBody ≡ Start = sym at.0 ∙ e in absurd cc);
        block = block_next stated d line s q h x;
        of_version = of_version_next stated d line s q h x;
        narrow = narrow_next stated d line s q h x;
        formed = formed_next stated d line s q h x;
        some_sector = h.some_sector;
        small_sector = h.small_sector;
        small_block = h.small_block;
        setup = h.setup;
        few_setup = h.few_setup;
        body = h.body;
        changes = h.changes;
        few_body = h.few_body;
        opened = h.opened;
        placed = h.placed;
      };
    })

pub question_fault : (stated : List Stated) (d : Draft) (want : Bool) (asked : List Lexeme) (q : Stage) (kind : LitmusKind) → IsDraft stated d
    → IsExpected d q (Question want asked)
    → ((kind ≡ TooLong) × (IsShort asked → ⊥)) ⊎ ((kind ≡ BadPredicate) × IsShort asked × ((p : Pred) → IsPredicate asked p → ⊥))
    → IsFirstKind (statements stated) (Question want asked) kind
question_fault stated d want asked q kind h x bad =
    let before = statements stated in
    let s = Question want asked in
    let known = has stated d 0 s q h x in
    let fits_order = order stated d 0 s q h x in
    let range = ranges before s x.in_range (λ b. b) in
    elim bad [
      | inl (is, long) ↦ subst (IsFirstKind before s) (sym is) (fault_long before s known fits_order range (λ b. b) long)
      | inr (is, short, none) ↦ subst (IsFirstKind before s) (sym is) (fault_asks before s known fits_order range (λ b. b) (λ long. long short) none)
    ]
