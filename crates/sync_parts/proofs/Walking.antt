-- A body without some syncs: it isn't refused where the whole one isn't, and has the same files and the other events.
use Rattle.std.proofs.Common.{◌≡◌, ◌↔◌, ◌⊎◌, ℕ, zero, suc, ◌+◌, ◌<◌, ◌≤◌, inl, inr, List, [], ◌∷◌, ◌++◌, length, map, cond, get_or, fold, take, ◌-◌, append_assoc, subst, Bool, true, false, ◌&&◌, Option, Some, None, is_some, Ok, Err, IsTrue, refl, sym, ◌∙◌, ap, arith}
use Rattle.std.specs.Prelude.{⊤, count_by, Result, All, nat_lt, ◌==◌}
use Rattle.std.specs.Option.{option_or}
use Rattle.std.specs.List.{range_with_len}
use Rattle.std.specs.List.Sorted.{IsNonDecreasingBy}
use Rattle.std.proofs.lemmas.Bool.{true≢false, eqb-true}
use Rattle.std.proofs.lemmas.Bool.Decides.{nat_tests}
use Rattle.std.proofs.lemmas.List.{length-append, append-nil}
use Rattle.std.proofs.lemmas.List.Elements.{All-nil, All-append, All-head, All-tail, All-weaker, length_all_zip}
use Rattle.std.proofs.lemmas.List.Sums.{sum_by-append}
use Rattle.std.proofs.Math.Seq.{get_or-append_seam}
use Rattle.litmus_syntax.specs.declared.call.Call.{Call}
use Rattle.litmus_syntax.specs.declared.call.Call.TheVariants.{Begin, Commit}
use Rattle.litmus_syntax.specs.declared.call.Step.{Step}
use Rattle.litmus_syntax.specs.declared.site.Site.{Site}
use Rattle.litmus_syntax.specs.CallKinds.{is_sync}
use Rattle.litmus_syntax.specs.Forms.{is_formed_call}
use Rattle.litmus_syntax.specs.Transactions.{calls_of, open_behind}
use Rattle.litmus_syntax.specs.Sites.{AreSyncs, StandOutside, inserted_at, with_sites}
use Rattle.fer_events.specs.declared.event.Event.{Event}
use Rattle.fer_events.specs.Orders.{numbers, IsEvent}
use Rattle.fer_events.specs.Lifting.{lifted}
use Rattle.call_events.specs.declared.files.Files.{Files}
use Rattle.call_events.specs.declared.files.Progress.{Progress}
use Rattle.call_events.specs.declared.making.Sizes.{Sizes}
use Rattle.call_events.specs.declared.making.Stamp.{Stamp}
use Rattle.call_events.specs.declared.call_kind.CallKind.{CallKind}
use Rattle.call_events.specs.declared.call_kind.CallKind.TheVariants.{TooManyEvents}
use Rattle.call_events.specs.declared.call_kind.CallFault.{CallFault}
use Rattle.call_events.specs.declared.call_kind.CallFault.TheVariants.{Refused}
use Rattle.call_events.specs.Refusals.{kind_if, refusal, too_many, events_full}
use Rattle.call_events.specs.Changes.{with_names, files_after}
use Rattle.call_events.specs.CallEvents.{events_of}
use Rattle.call_events.specs.Running.{last_txn, open_after, unless_refused, events_next, after_call, body_refusal, run_body}
use Rattle.call_events.specs.Runs.{isnt_sync}
use Rattle.call_events.proofs.Keeping.{first_none, second_none, test_fails}
use Rattle.call_events.proofs.Runs.{few_events, IsNext, events_next_txns}
use Rattle.sync_parts.specs.Parts.{stays}
use Rattle.sync_parts.specs.Without.{IsWithout, KeepsCalls}
use Rattle.sync_parts.specs.Sites.{AreSome, sites_present, present_at, calls_present, call_stays, places_from}
use Rattle.sync_parts.proofs.Members.{test-cases}
use Rattle.sync_parts.proofs.Among.{fewer}
use Rattle.sync_parts.proofs.Joining.{KeepsAcross, IsAloneAcross, apart-across, apart-alone, joined, joined-shared, joined-pointwise, joined-kept}
use Rattle.sync_parts.proofs.Chunks.{IsShifted, events-shifted, chunk-without, all-stay, zip-count, one-out, none-shared, chunk-calls, sync-files, sync-event, sync-open}
use Rattle.sync_parts.proofs.Rising.{IsOpenLast, stamp_at, progress, below_last, event-has, next-rise, next-last, next-apart, next-calls, calls-apart}

-- a body without some of its syncs, none of them where a transaction is open: which calls stay is said by their numbers,
-- those of the whole body
abbrev pub IsThinned : (ℕ → Bool) → ℕ → Bool → List Step → List Step → Type 0
IsThinned stays number inside few [] = few ≡ []
IsThinned stays number inside few (step ∷ many) =
    ((rest : List Step) × (few ≡ step ∷ rest) × (stays number ≡ true) × IsThinned stays (number + 1) (open_behind inside step.call) rest many)
    ⊎ ((is_sync step.call ≡ true) × (stays number ≡ false) × (inside ≡ false) × IsThinned stays (number + 1) (open_behind inside step.call) few many)

-- the same, said by a truth value for each call
abbrev IsMarked : Bool → List Step → List Step → List Bool → Type 0
IsMarked inside few [] [] = few ≡ []
IsMarked inside few [] (here ∷ stay) = ⊥
IsMarked inside few (step ∷ many) [] = ⊥
IsMarked inside few (step ∷ many) (true ∷ stay) = (rest : List Step) × (few ≡ step ∷ rest) × IsMarked (open_behind inside step.call) rest many stay
IsMarked inside few (step ∷ many) (false ∷ stay) = (is_sync step.call ≡ true) × (inside ≡ false) × IsMarked (open_behind inside step.call) few many stay

marked-append : (inside : Bool) (few many : List Step) (stay : List Bool) (few_more many_more : List Step) (stay_more : List Bool) → IsMarked inside few many stay
    → IsMarked (fold open_behind inside (calls_of many)) few_more many_more stay_more
    → IsMarked inside (few ++ few_more) (many ++ many_more) (stay ++ stay_more)
marked-append inside few [] [] few_more many_more stay_more is more = rw is more
marked-append inside few [] (here ∷ stay) few_more many_more stay_more is more = absurd is
marked-append inside few (step ∷ many) [] few_more many_more stay_more is more = absurd is
marked-append inside few (step ∷ many) (true ∷ stay) few_more many_more stay_more is more =
    (is.0 ++ few_more, ap (λ l. l ++ few_more) is.1, marked-append (open_behind inside step.call) is.0 many stay few_more many_more stay_more is.2 more)
marked-append inside few (step ∷ many) (false ∷ stay) few_more many_more stay_more is more =
    (is.0, is.1, marked-append (open_behind inside step.call) few many stay few_more many_more stay_more is.2 more)

and-first : (a b : Bool) → (a && b) ≡ true → a ≡ true
and-first true b h = refl
and-first false b h = h

abbrev IsSync : Site → Type 0
IsSync site = IsTrue (is_sync site.call && is_formed_call site.call)

none-present : (sites : List Site) → sites_present sites [] ≡ []
none-present [] = refl
none-present (site ∷ sites) = refl

-- a sync opens no transaction and closes none
sync-behind : (inside : Bool) (call : Call) → is_sync call ≡ true → open_behind inside call ≡ inside
sync-behind inside Begin h = cc
sync-behind inside Commit h = cc
sync-behind inside call h = refl

-- where these sites stand, no transaction is open
abbrev IsShutAt : ℕ → Bool → Site → Type 0
IsShutAt number inside site = site.after ≡ number → inside ≡ false

marked-inserted : (number line : ℕ) (inside : Bool) (sites : List Site) (present : List Bool) → AreSyncs sites → All (IsShutAt number inside) sites
    → IsMarked inside (inserted_at number line (sites_present sites present)) (inserted_at number line sites) (present_at number sites present)
marked-inserted number line inside [] present syncs shut = refl
marked-inserted number line inside (site ∷ sites) [] syncs shut =
    let sync : is_sync site.call ≡ true = and-first (is_sync site.call) (is_formed_call site.call) (All-head IsSync site sites syncs) in
    let more : IsMarked inside [] (inserted_at number line sites) (present_at number sites []) =
    rw (none-present sites) at (marked-inserted number line inside sites [] (All-tail IsSync site sites syncs) (All-tail (IsShutAt number inside) site sites shut)) in
    elim (test-cases (site.after == number)) [
      | inl here ↦
          let closed : inside ≡ false = All-head (IsShutAt number inside) site sites shut (eqb-true site.after number here) in
          rw here (sync, closed, subst (λ (b : Bool). IsMarked b [] (inserted_at number line sites) (present_at number sites [])) (sym (sync-behind inside site.call sync)) more)
      | inr elsewhere ↦ rw elsewhere more
    ]
marked-inserted number line inside (site ∷ sites) (true ∷ present) syncs shut =
    let sync : is_sync site.call ≡ true = and-first (is_sync site.call) (is_formed_call site.call) (All-head IsSync site sites syncs) in
    let more = marked-inserted number line inside sites present (All-tail IsSync site sites syncs) (All-tail (IsShutAt number inside) site sites shut) in
    elim (test-cases (site.after == number)) [
      | inl here ↦ rw here (
        inserted_at number line (sites_present sites present),
        refl,
        subst (λ (b : Bool). IsMarked b (inserted_at number line (sites_present sites present)) (inserted_at number line sites) (present_at number sites present)) (sym (sync-behind inside site.call sync)) more,
      )
      | inr elsewhere ↦ rw elsewhere more
    ]
marked-inserted number line inside (site ∷ sites) (false ∷ present) syncs shut =
    let sync : is_sync site.call ≡ true = and-first (is_sync site.call) (is_formed_call site.call) (All-head IsSync site sites syncs) in
    let more = marked-inserted number line inside sites present (All-tail IsSync site sites syncs) (All-tail (IsShutAt number inside) site sites shut) in
    elim (test-cases (site.after == number)) [
      | inl here ↦
          let closed : inside ≡ false = All-head (IsShutAt number inside) site sites shut (eqb-true site.after number here) in
          rw here (sync, closed, subst (λ (b : Bool). IsMarked b (inserted_at number line (sites_present sites present)) (inserted_at number line sites) (present_at number sites present)) (sym (sync-behind inside site.call sync)) more)
      | inr elsewhere ↦ rw elsewhere more
    ]

-- what is inserted opens and closes nothing
inserted-behind : (number line : ℕ) (inside : Bool) (sites : List Site) → AreSyncs sites → fold open_behind inside (calls_of (inserted_at number line sites)) ≡ inside
inserted-behind number line inside [] syncs = refl
inserted-behind number line inside (site ∷ sites) syncs =
    let sync : is_sync site.call ≡ true = and-first (is_sync site.call) (is_formed_call site.call) (All-head IsSync site sites syncs) in
    let more = inserted-behind number line inside sites (All-tail IsSync site sites syncs) in
    elim (test-cases (site.after == number)) [
      | inl here ↦ rw here (ap (λ (b : Bool). fold open_behind b (calls_of (inserted_at number line sites))) (sync-behind inside site.call sync) ∙ more)
      | inr elsewhere ↦ rw elsewhere more
    ]

-- behind the calls from this number on, the sites find no open transaction
abbrev AreOutside : Bool → ℕ → List Step → List Site → Type 0
AreOutside inside number steps sites = All (λ site. number ≤ site.after → fold open_behind inside (take (site.after + 1 - number) (calls_of steps)) ≡ false) sites

outside-first : (body : List Step) (sites : List Site) → StandOutside body sites → AreOutside false 1 body sites
outside-first body sites outside =
    All-weaker (λ (s : Site). fold open_behind false (take s.after (calls_of body)) ≡ false) (λ (s : Site). 1 ≤ s.after → fold open_behind false (take (s.after + 1 - 1) (calls_of body)) ≡ false)
    (λ site out some.
    let e : site.after ≡ site.after + 1 - 1 = omega arith in
    subst (λ (k : ℕ). fold open_behind false (take k (calls_of body)) ≡ false) e out)
    sites outside

outside-behind : (inside : Bool) (number : ℕ) (step : Step) (steps : List Step) (sites : List Site)
    → AreOutside inside number (step ∷ steps) sites → AreOutside (open_behind inside step.call) (number + 1) steps sites
outside-behind inside number step steps sites outside =
    All-weaker (λ (s : Site). number ≤ s.after → fold open_behind inside (take (s.after + 1 - number) (step.call ∷ calls_of steps)) ≡ false)
    (λ (s : Site). number + 1 ≤ s.after → fold open_behind (open_behind inside step.call) (take (s.after + 1 - (number + 1)) (calls_of steps)) ≡ false)
    (λ site out later.
    let e : site.after + 1 - number ≡ suc (site.after + 1 - (number + 1)) = omega arith in
    subst (λ (k : ℕ). fold open_behind inside (take k (step.call ∷ calls_of steps)) ≡ false) e (out (omega arith)))
    sites outside

outside-here : (inside : Bool) (number : ℕ) (step : Step) (steps : List Step) (sites : List Site)
    → AreOutside inside number (step ∷ steps) sites → All (IsShutAt number (open_behind inside step.call)) sites
outside-here inside number step steps sites outside =
    All-weaker (λ (s : Site). number ≤ s.after → fold open_behind inside (take (s.after + 1 - number) (step.call ∷ calls_of steps)) ≡ false)
    (IsShutAt number (open_behind inside step.call))
    (λ site out here.
    let e : site.after + 1 - number ≡ suc 0 = omega (arith, here) in
    subst (λ (k : ℕ). fold open_behind inside (take k (step.call ∷ calls_of steps)) ≡ false) e (out (omega (arith, here))))
    sites outside

marked-sites : (number : ℕ) (inside : Bool) (steps : List Step) (sites : List Site) (present : List Bool) → AreSyncs sites → AreOutside inside number steps sites
    → IsMarked inside (with_sites number steps (sites_present sites present)) (with_sites number steps sites) (calls_present number steps sites present)
marked-sites number inside [] sites present syncs outside = refl
marked-sites number inside (step ∷ steps) sites present syncs outside =
    let behind : Bool = open_behind inside step.call in
    let rest = marked-sites (number + 1) behind steps sites present syncs (outside-behind inside number step steps sites outside) in (
      inserted_at number step.line (sites_present sites present) ++ with_sites (number + 1) steps (sites_present sites present),
      refl,
      marked-append behind (inserted_at number step.line (sites_present sites present)) (inserted_at number step.line sites) (present_at number sites present)
          (with_sites (number + 1) steps (sites_present sites present)) (with_sites (number + 1) steps sites) (calls_present (number + 1) steps sites present)
          (marked-inserted number step.line behind sites present syncs (outside-here inside number step steps sites outside))
          (subst (λ (b : Bool). IsMarked b (with_sites (number + 1) steps (sites_present sites present)) (with_sites (number + 1) steps sites) (calls_present (number + 1) steps sites present))
          (sym (inserted-behind number step.line behind sites syncs)) rest),
    )

at-front : (front : List Bool) (here : Bool) (stay : List Bool) (number : ℕ) → number ≡ length front + 1 → call_stays (front ++ here ∷ stay) number ≡ here
at-front front here stay number at =
    let place : number - 1 ≡ length front = omega arith in
    ap (λ k. get_or (front ++ here ∷ stay) k false) place ∙ get_or-append_seam front here stay false

thinned-from : (front : List Bool) (inside : Bool) (few many : List Step) (stay : List Bool) (number : ℕ) → number ≡ length front + 1 → IsMarked inside few many stay
    → IsThinned (call_stays (front ++ stay)) number inside few many
thinned-from front inside few [] [] number at is = is
thinned-from front inside few [] (here ∷ stay) number at is = absurd is
thinned-from front inside few (step ∷ many) [] number at is = absurd is
thinned-from front inside few (step ∷ many) (true ∷ stay) number at is =
    let more = thinned-from (front ++ true ∷ []) (open_behind inside step.call) is.0 many stay (number + 1) (omega (arith, length-append front (true ∷ []))) is.2 in
    inl (is.0, is.1, at-front front true stay number at, subst (λ (l : List Bool). IsThinned (call_stays l) (number + 1) (open_behind inside step.call) is.0 many) (append_assoc front (true ∷ []) stay) more)
thinned-from front inside few (step ∷ many) (false ∷ stay) number at is =
    let more = thinned-from (front ++ false ∷ []) (open_behind inside step.call) few many stay (number + 1) (omega (arith, length-append front (false ∷ []))) is.2 in
    inr (is.0, at-front front false stay number at, is.1, subst (λ (l : List Bool). IsThinned (call_stays l) (number + 1) (open_behind inside step.call) few many) (append_assoc front (false ∷ []) stay) more)

pub thinned-sites : (steps : List Step) (sites : List Site) (present : List Bool) → AreSyncs sites → StandOutside steps sites
    → IsThinned (call_stays (calls_present 1 steps sites present)) 1 false (with_sites 1 steps (sites_present sites present)) (with_sites 1 steps sites)
thinned-sites steps sites present syncs outside =
    thinned-from [] false (with_sites 1 steps (sites_present sites present)) (with_sites 1 steps sites) (calls_present 1 steps sites present) 1 (omega arith)
    (marked-sites 1 false steps sites present syncs (outside-first steps sites outside))

-- sites that are some of others are those that are present by some truth values
pub some-present : (few many : List Site) → AreSome few many → (present : List Bool) × (few ≡ sites_present many present)
some-present few [] is = ([], is)
some-present few (site ∷ many) (inl both) = let rest = some-present both.0 many both.2 in (true ∷ rest.0, both.1 ∙ ap (λ l. site ∷ l) rest.1)
some-present few (site ∷ many) (inr out) = let rest = some-present few many out in (false ∷ rest.0, rest.1)

-- the places of events, one part after another
places-append : (stays : ℕ → Bool) (low : ℕ) (xs ys : List Event) → places_from low stays (xs ++ ys) ≡ places_from low stays xs ++ places_from (low + length xs) stays ys
places-append stays low [] ys = let e : low ≡ low + 0 = omega arith in ap (λ k. places_from k stays ys) e
places-append stays low (x ∷ xs) ys =
    let e : low + 1 + length xs ≡ low + suc (length xs) = omega arith in
    let more = places-append stays (low + 1) xs ys ∙ ap (λ k. places_from (low + 1) stays xs ++ places_from k stays ys) e in
    elim (test-cases (stays x.call)) [ inl here ↦ rw here (ap (λ l. low ∷ l) more) | inr out ↦ rw out more ]

places-all : (stays : ℕ → Bool) (low number : ℕ) (xs : List Event) → All (λ e. e.call ≡ number) xs → stays number ≡ true → places_from low stays xs ≡ range_with_len low (length xs)
places-all stays low number [] all t = refl
places-all stays low number (x ∷ xs) all t =
    let here : stays x.call ≡ true = ap stays (All-head (λ e. e.call ≡ number) x xs all) ∙ t in
    rw here (ap (λ l. low ∷ l) (places-all stays (low + 1) number xs (All-tail (λ e. e.call ≡ number) x xs all) t))

places-none : (stays : ℕ → Bool) (low number : ℕ) (xs : List Event) → All (λ e. e.call ≡ number) xs → stays number ≡ false → places_from low stays xs ≡ []
places-none stays low number [] all t = refl
places-none stays low number (x ∷ xs) all t =
    let out : stays x.call ≡ false = ap stays (All-head (λ e. e.call ≡ number) x xs all) ∙ t in
    rw out (places-none stays (low + 1) number xs (All-tail (λ e. e.call ≡ number) x xs all) t)

range-shifted : (n low k : ℕ) → map (λ q. n + q) (range_with_len low k) ≡ range_with_len (n + low) k
range-shifted n low zero = refl
range-shifted n low (suc k) = let e : n + (low + 1) ≡ n + low + 1 = omega arith in ap (λ l. (n + low) ∷ l) (range-shifted n (low + 1) k ∙ ap (λ m. range_with_len m k) e)

one-call : (sizes : Sizes) (stamp : Stamp) (s : Files) (call : Call) → All (λ e. e.call ≡ stamp.call) (events_of sizes stamp s call)
one-call sizes stamp s call =
    let more : List Event = events_of sizes stamp s call in
    All-weaker (IsNext stamp (length more)) (λ e. e.call ≡ stamp.call) (λ e h. h.0) more (events_next_txns sizes stamp s call)

-- what was accepted wasn't refused
pub accepted : {X : Type 0} (o : Option CallKind) (line : ℕ) (next : Result X CallFault) (x : X) → unless_refused o line next ≡ Ok x → (o ≡ None) × (next ≡ Ok x)
accepted None line next x h = (refl, h)
accepted (Some kind) line next x h = absurd (let bad : Err (Refused line kind) ≡ Ok x = h in cc)

none-of : (o : Option CallKind) (full : Bool) (kind : CallKind) → o ≡ None → full ≡ false → option_or o (kind_if full kind) ≡ None
none-of o full kind e f = rw (e, f) refl

not-many : (es : List Event) → count_by isnt_sync es ≤ 64 → length es ≤ 128 → too_many es ≡ false
not-many es few short =
    let a : nat_lt 64 (count_by isnt_sync es) ≡ false = grind (arith, nat_tests) in
    let b : nat_lt 128 (length es) ≡ false = grind (arith, nat_tests) in
    rw (a, b) refl

count-append : (xs ys : List Event) → count_by isnt_sync (xs ++ ys) ≡ count_by isnt_sync xs + count_by isnt_sync ys
count-append xs ys = sum_by-append (λ (e : Event). cond {A = ℕ} (isnt_sync e) 1 0) xs ys

-- the events of the open transactions are lifted to each other, and all of them stay
pub record OpenAlike (places : List ℕ) (small large : List Event) (t u : ℕ) : Type 0 where
  pub alike : (a : ℕ) (e f : Event) → IsEvent small a e → IsEvent large (lifted places a) f → (e.txn ≡ t) ↔ (f.txn ≡ u)
  pub kept : (x : ℕ) (f : Event) → IsEvent large x f → f.txn ≡ u → stays places x ≡ true

-- of two bodies both have a transaction open, or neither
abbrev pub AreOpenAlike : List ℕ → List Event → List Event → Option ℕ → Option ℕ → Type 0
AreOpenAlike places small large None None = ⊤
AreOpenAlike places small large None (Some u) = ⊥
AreOpenAlike places small large (Some t) None = ⊥
AreOpenAlike places small large (Some t) (Some u) = OpenAlike places small large t u

alike-shared : (places : List ℕ) (small large : List Event) (o q : Option ℕ) → AreOpenAlike places small large o q → is_some o ≡ is_some q
alike-shared places small large None None h = refl
alike-shared places small large None (Some u) h = absurd h
alike-shared places small large (Some t) None h = absurd h
alike-shared places small large (Some t) (Some u) h = refl

-- how far two bodies have come
pub record Follows (stays : ℕ → Bool) (few_number many_number : ℕ) (small large : List Event) (o q : Option ℕ) : Type 0 where
  pub places : List ℕ
  pub named : places ≡ places_from 1 stays large
  pub without : IsWithout places large small
  pub small_rises : IsNonDecreasingBy (λ e. e.txn) small
  pub large_rises : IsNonDecreasingBy (λ e. e.txn) large
  pub calls : KeepsCalls places large small
  pub small_calls : All (λ e. e.call < few_number) small
  pub large_calls : All (λ e. e.call < many_number) large
  pub counts : count_by isnt_sync small ≤ count_by isnt_sync large
  pub small_last : IsOpenLast o small
  pub large_last : IsOpenLast q large
  pub opened : AreOpenAlike places small large o q

same_range : (a b k m : ℕ) → a ≡ b → k ≡ m → range_with_len a k ≡ range_with_len b m
same_range a b k m e f = ap (λ x. range_with_len x k) e ∙ ap (range_with_len b) f

-- a new event of an open transaction is of it
own-txn : (sizes : Sizes) (number : ℕ) (es : List Event) (t : ℕ) (s : Files) (call : Call) (z : ℕ) (f : Event)
    → IsEvent (events_of sizes (stamp_at number es (Some t)) s call) z f → f.txn ≡ t
own-txn sizes number es t s call z f at =
    let stamp : Stamp = stamp_at number es (Some t) in
    let more : List Event = events_of sizes stamp s call in
    (event-has (IsNext stamp (length more)) more z f (events_next_txns sizes stamp s call) at).3 refl

-- what new events share with those before them
across-chunk :
    (sizes : Sizes) (few_number many_number : ℕ) (s : Files) (call : Call) (small large : List Event) (places qs : List ℕ) (o q : Option ℕ)
    → IsNonDecreasingBy (λ e. e.txn) small → IsNonDecreasingBy (λ e. e.txn) large → AreOpenAlike places small large o q
    → KeepsAcross (λ e. e.txn) places qs large small (events_of sizes (stamp_at many_number large q) s call) (events_of sizes (stamp_at few_number small o) s call)
across-chunk sizes few_number many_number s call small large places qs None None few many opened =
    apart-across (λ e. e.txn) places qs large small (events_of sizes (stamp_at many_number large None) s call) (events_of sizes (stamp_at few_number small None) s call)
    (next-apart sizes many_number large s call many) (next-apart sizes few_number small s call few)
across-chunk sizes few_number many_number s call small large places qs None (Some u) few many opened = absurd opened
across-chunk sizes few_number many_number s call small large places qs (Some t) None few many opened = absurd opened
across-chunk sizes few_number many_number s call small large places qs (Some t) (Some u) few many opened = λ a z e f g h at_e at_f at_g at_h.
    let new_f : f.txn ≡ t = own-txn sizes few_number small t s call z f at_f in
    let new_h : h.txn ≡ u = own-txn sizes many_number large u s call (lifted qs z) h at_h in
    let both = opened.alike a e g at_e at_g in
    (λ same. both.0 (same ∙ new_f) ∙ sym new_h, λ same. both.1 (same ∙ new_h) ∙ sym new_f)

alone-chunk :
    (sizes : Sizes) (number : ℕ) (s : Files) (call : Call) (small large : List Event) (places qs : List ℕ) (o q : Option ℕ)
    → IsNonDecreasingBy (λ e. e.txn) large → AreOpenAlike places small large o q
    → ((z : ℕ) (f : Event) → IsEvent (events_of sizes (stamp_at number large q) s call) z f → stays qs z ≡ true)
    → IsAloneAcross places qs large (events_of sizes (stamp_at number large q) s call)
alone-chunk sizes number s call small large places qs None None rises opened all =
    apart-alone places qs large (events_of sizes (stamp_at number large None) s call) (next-apart sizes number large s call rises)
alone-chunk sizes number s call small large places qs None (Some u) rises opened all = absurd opened
alone-chunk sizes number s call small large places qs (Some t) None rises opened all = absurd opened
alone-chunk sizes number s call small large places qs (Some t) (Some u) rises opened all = λ x z e f at_e at_f same.
    (opened.kept x e at_e (same ∙ own-txn sizes number large u s call z f at_f), all z f at_f)

-- the open transactions, with more events
still-alike :
    (sizes : Sizes) (few_number many_number : ℕ) (s : Files) (call : Call) (small large : List Event) (places qs : List ℕ) (o q : Option ℕ)
    → IsWithout places large small
    → IsWithout qs (events_of sizes (stamp_at many_number large q) s call) (events_of sizes (stamp_at few_number small o) s call)
    → ((z : ℕ) (f : Event) → IsEvent (events_of sizes (stamp_at many_number large q) s call) z f → stays qs z ≡ true)
    → AreOpenAlike places small large o q
    → AreOpenAlike (places ++ map (λ x. length large + x) qs) (small ++ events_of sizes (stamp_at few_number small o) s call) (large ++ events_of sizes (stamp_at many_number large q) s call) o q
still-alike sizes few_number many_number s call small large places qs None None w v all opened = tt
still-alike sizes few_number many_number s call small large places qs None (Some u) w v all opened = absurd opened
still-alike sizes few_number many_number s call small large places qs (Some t) None w v all opened = absurd opened
still-alike sizes few_number many_number s call small large places qs (Some t) (Some u) w v all opened =
    let more_small : List Event = events_of sizes (stamp_at few_number small (Some t)) s call in
    let more_large : List Event = events_of sizes (stamp_at many_number large (Some u)) s call in
    record {
      alike = joined-pointwise places qs large small more_large more_small w v (λ e f. (e.txn ≡ t) ↔ (f.txn ≡ u)) opened.alike
          (λ z e f at_e at_f. (λ _. own-txn sizes many_number large u s call (lifted qs z) f at_f, λ _. own-txn sizes few_number small t s call z e at_e));
      kept = joined-kept places qs large small more_large more_small w v (λ f. f.txn ≡ u) opened.kept (λ z f at is. all z f at);
    }

-- a transaction that begins has no events yet
new-alike : (places : List ℕ) (small large : List Event) → IsNonDecreasingBy (λ e. e.txn) small → IsNonDecreasingBy (λ e. e.txn) large
    → OpenAlike places (small ++ []) (large ++ []) (last_txn small + 1) (last_txn large + 1)
new-alike places small large few many = record {
  alike = λ a e f at_e at_f. (
    λ is. absurd (let low = event-has (λ g. g.txn ≤ last_txn small) (small ++ []) a e (old small few) at_e in omega (arith, low, is)),
    λ is. absurd (let low = event-has (λ g. g.txn ≤ last_txn large) (large ++ []) (lifted places a) f (old large many) at_f in omega (arith, low, is)),
  );
  kept = λ x f at is. absurd (let low = event-has (λ g. g.txn ≤ last_txn large) (large ++ []) x f (old large many) at in omega (arith, low, is));
}
  where
    old : (es : List Event) → IsNonDecreasingBy (λ e. e.txn) es → All (λ e. e.txn ≤ last_txn es) (es ++ [])
    old es rises = All-append (λ e. e.txn ≤ last_txn es) es [] (below_last es rises) (All-nil (λ e. e.txn ≤ last_txn es))

next-alike :
    (sizes : Sizes) (few_number many_number : ℕ) (f s : Files) (call : Call) (small large : List Event) (places qs : List ℕ) (o q : Option ℕ)
    → IsNonDecreasingBy (λ e. e.txn) small → IsNonDecreasingBy (λ e. e.txn) large
    → AreOpenAlike (places ++ map (λ x. length large + x) qs) (small ++ events_of sizes (stamp_at few_number small o) s call) (large ++ events_of sizes (stamp_at many_number large q) s call) o q
    → AreOpenAlike (places ++ map (λ x. length large + x) qs) (small ++ events_of sizes (stamp_at few_number small o) s call) (large ++ events_of sizes (stamp_at many_number large q) s call)
    (open_after (progress f small o) call) (open_after (progress f large q) call)
next-alike sizes few_number many_number f s Begin small large places qs o q few many still = new-alike (places ++ map (λ x. length large + x) qs) small large few many
next-alike sizes few_number many_number f s Commit small large places qs o q few many still = tt
next-alike sizes few_number many_number f s call small large places qs o q few many still = still

-- a call of both
follows-both : (stays : ℕ → Bool) (sizes : Sizes) (few_number many_number : ℕ) (g s : Files) (call : Call) (small large : List Event) (o q : Option ℕ) → stays many_number ≡ true
    → Follows stays few_number many_number small large o q
    → Follows stays (few_number + 1) (many_number + 1) (small ++ events_of sizes (stamp_at few_number small o) s call) (large ++ events_of sizes (stamp_at many_number large q) s call)
    (open_after (progress g small o) call) (open_after (progress g large q) call)
follows-both stays sizes few_number many_number g s call small large o q kept f =
    let few : Stamp = stamp_at few_number small o in
    let many : Stamp = stamp_at many_number large q in
    let more_small : List Event = events_of sizes few s call in
    let more_large : List Event = events_of sizes many s call in
    let zip = events-shifted sizes few many s call (alike-shared f.places small large o q f.opened) in
    let qs : List ℕ = numbers (length more_small) in
    let chunk : IsWithout qs more_large more_small = chunk-without few many more_small more_large zip in
    let all = all-stay few many more_small more_large zip in
    let still = still-alike sizes few_number many_number s call small large f.places qs o q f.without chunk all f.opened in
    record {
      places = f.places ++ map (λ x. length large + x) qs;
      named =
          ap (λ l. l ++ map (λ x. length large + x) qs) f.named
          ∙ ap (λ l. places_from 1 stays large ++ l) (range-shifted (length large) 1 (length more_small) ∙ same_range (length large + 1) (1 + length large) (length more_small) (length more_large) (omega arith) (length_all_zip (IsShifted few many) more_small more_large zip)
          ∙ sym (places-all stays (1 + length large) many_number more_large (one-call sizes many s call) kept))
          ∙ sym (places-append stays 1 large more_large);
      without = joined f.places qs large small more_large more_small f.without chunk
          (across-chunk sizes few_number many_number s call small large f.places qs o q f.small_rises f.large_rises f.opened)
          (alone-chunk sizes many_number s call small large f.places qs o q f.large_rises f.opened all);
      small_rises = next-rise sizes few_number small o s call f.small_rises f.small_last;
      large_rises = next-rise sizes many_number large q s call f.large_rises f.large_last;
      calls = joined-shared f.places qs large small more_large more_small f.without chunk (λ e. e.call) f.calls (chunk-calls few many more_small more_large zip)
          (apart-across (λ e. e.call) f.places qs large small more_large more_small (calls-apart sizes many large s call f.large_calls) (calls-apart sizes few small s call f.small_calls));
      small_calls = next-calls sizes few small s call f.small_calls;
      large_calls = next-calls sizes many large s call f.large_calls;
      counts = omega (arith, f.counts, count-append small more_small, count-append large more_large, zip-count few many more_small more_large zip);
      small_last = next-last sizes few_number small o g s call f.small_rises f.small_last;
      large_last = next-last sizes many_number large q g s call f.large_rises f.large_last;
      opened = next-alike sizes few_number many_number g s call small large f.places qs o q f.small_rises f.large_rises still;
    }

no-event : (y : ℕ) (g : Event) → IsEvent [] y g → ⊥
no-event y g at = let bad = at.1 in cc

-- a sync that is left out
follows-out : (stays : ℕ → Bool) (sizes : Sizes) (few_number number : ℕ) (s : Files) (call : Call) (small large : List Event) (o q : Option ℕ) → is_some q ≡ false
    → is_sync call ≡ true → stays number ≡ false → Follows stays few_number number small large o q
    → Follows stays few_number (number + 1) small (large ++ events_of sizes (stamp_at number large q) s call) o q
follows-out stays sizes few_number number s call small large o (Some u) shut sync out f = absurd (true≢false shut)
follows-out stays sizes few_number number s call small large (Some t) None shut sync out f = absurd f.opened
follows-out stays sizes few_number number s call small large None None shut sync out f =
    let stamp : Stamp = stamp_at number large None in
    let more : List Event = events_of sizes stamp s call in
    let one = sync-event sizes stamp s call sync in
    let none : IsWithout [] more [] = rw one.1 (one-out one.0 one.2) in
    let apart = next-apart sizes number large s call f.large_rises in
    let whole_calls : KeepsCalls (f.places ++ []) (large ++ more) (small ++ []) =
    joined-shared f.places [] large small more [] f.without none (λ e. e.call) f.calls (none-shared (λ e. e.call) more)
    (apart-across (λ e. e.call) f.places [] large small more [] (calls-apart sizes stamp large s call f.large_calls) (λ x y e g at_e at_g. absurd (no-event y g at_g))) in
    let whole = joined f.places [] large small more [] f.without none
    (apart-across (λ e. e.txn) f.places [] large small more [] apart (λ x y e g at_e at_g. absurd (no-event y g at_g)))
    (apart-alone f.places [] large more apart) in
    record {
      places = f.places;
      named =
          f.named ∙ sym (append-nil (places_from 1 stays large)) ∙ ap (λ l. places_from 1 stays large ++ l) (sym (places-none stays (1 + length large) number more (one-call sizes stamp s call) out))
          ∙ sym (places-append stays 1 large more);
      without = rw (append-nil f.places, append-nil small) at whole;
      small_rises = f.small_rises;
      large_rises = next-rise sizes number large None s call f.large_rises tt;
      calls = rw (append-nil f.places, append-nil small) at whole_calls;
      small_calls = f.small_calls;
      large_calls = next-calls sizes stamp large s call f.large_calls;
      counts = omega (arith, f.counts, count-append large more);
      small_last = tt;
      large_last = tt;
      opened = tt;
    }

pub ok-same : (p q : Progress) → ◌≡◌ {A = Result Progress CallFault} (Ok p) (Ok q) → p ≡ q
ok-same p q h = cc

-- what is left of a run without some of its syncs
pub record Left (stays : ℕ → Bool) (sizes : Sizes) (number : ℕ) (start : Progress) (few : List Step) (out : Progress) : Type 0 where
  pub left : Progress
  pub ran : run_body sizes number start few ≡ Ok left
  pub files : left.files ≡ out.files
  pub without : IsWithout (places_from 1 stays out.events) out.events left.events
  pub calls : KeepsCalls (places_from 1 stays out.events) out.events left.events

not-refused : (stays : ℕ → Bool) (sizes : Sizes) (few_number many_number : ℕ) (s : Files) (call : Call) (small large : List Event) (o q : Option ℕ) → stays many_number ≡ true
    → Follows stays few_number many_number small large o q
    → body_refusal sizes many_number (progress s large q) call ≡ None → body_refusal sizes few_number (progress s small o) call ≡ None
not-refused stays sizes few_number many_number s call small large o q kept f here =
    let more_small : List Event = events_of sizes (stamp_at few_number small o) (with_names s call) call in
    let more_large : List Event = events_of sizes (stamp_at many_number large q) (with_names s call) call in
    let first : refusal s call ≡ None = first_none (refusal s call) (events_full large more_large) here in
    let full : too_many (large ++ more_large) ≡ false = test_fails (too_many (large ++ more_large)) TooManyEvents (second_none (refusal s call) (events_full large more_large) here) in
    let bounds : (count_by isnt_sync (large ++ more_large) ≤ 64) × (length (large ++ more_large) ≤ 128) = few_events (large ++ more_large) full in
    let next = follows-both stays sizes few_number many_number s (with_names s call) call small large o q kept f in
    let short : length (small ++ more_small) ≤ length (large ++ more_large) = fewer next.places (large ++ more_large) (small ++ more_small) next.without in
    let count : count_by isnt_sync (small ++ more_small) ≤ count_by isnt_sync (large ++ more_large) = next.counts in
    let few_count : count_by isnt_sync (small ++ more_small) ≤ 64 = omega (arith, bounds.0) in
    let few_long : length (small ++ more_small) ≤ 128 = omega (arith, bounds.1) in
    none-of (refusal s call) (too_many (small ++ more_small)) TooManyEvents first
    (not-many (small ++ more_small) few_count few_long)

-- a transaction is open behind a call where its word says so
still-open : (p : Progress) (call : Call) (inside : Bool) → is_some p.opened ≡ inside → is_some (open_after p call) ≡ open_behind inside call
still-open p Begin inside h = refl
still-open p Commit inside h = refl
still-open p call inside h = h

pub walk : (stays : ℕ → Bool) (sizes : Sizes) (few_number many_number : ℕ) (s : Files) (small large : List Event) (o q : Option ℕ) (inside : Bool) (few many : List Step)
    → is_some q ≡ inside → IsThinned stays many_number inside few many
    → Follows stays few_number many_number small large o q → (out : Progress) → run_body sizes many_number (progress s large q) many ≡ Ok out
    → Left stays sizes few_number (progress s small o) few out
walk stays sizes few_number many_number s small large o q inside few [] there is f out h =
    let same : progress s large q ≡ out = ok-same (progress s large q) out h in
    let files : s ≡ out.files = ap (λ (p : Progress). p.files) same in
    let events : large ≡ out.events = ap (λ (p : Progress). p.events) same in
    let places : f.places ≡ places_from 1 stays out.events = f.named ∙ ap (places_from 1 stays) events in
    record {
      left = progress s small o;
      ran = ap (run_body sizes few_number (progress s small o)) is;
      files = files;
      without = rw (← places, ← events) f.without;
      calls = rw (← places, ← events) f.calls;
    }
walk stays sizes few_number many_number s small large o q inside few (step ∷ many) there (inl both) f out h =
    let ok = accepted (body_refusal sizes many_number (progress s large q) step.call) step.line (run_body sizes (many_number + 1) (after_call sizes many_number (progress s large q) step.call) many) out h in
    let here = not-refused stays sizes few_number many_number s step.call small large o q both.2 f ok.0 in
    let rest = walk stays sizes (few_number + 1) (many_number + 1) (files_after s step.call)
    (small ++ events_next sizes few_number (progress s small o) step.call) (large ++ events_next sizes many_number (progress s large q) step.call)
    (open_after (progress s small o) step.call) (open_after (progress s large q) step.call) (open_behind inside step.call)
    both.0 many (still-open (progress s large q) step.call inside there) both.3
    (follows-both stays sizes few_number many_number s (with_names s step.call) step.call small large o q both.2 f) out ok.1 in
    record {
      left = rest.left;
      ran =
          ap (run_body sizes few_number (progress s small o)) both.1
          ∙ ap (λ (o' : Option CallKind). unless_refused o' step.line (run_body sizes (few_number + 1) (after_call sizes few_number (progress s small o) step.call) both.0)) here ∙ rest.ran;
      files = rest.files;
      without = rest.without;
      calls = rest.calls;
    }
walk stays sizes few_number many_number s small large o q inside few (step ∷ many) there (inr skipped) f out h =
    let ok = accepted (body_refusal sizes many_number (progress s large q) step.call) step.line (run_body sizes (many_number + 1) (after_call sizes many_number (progress s large q) step.call) many) out h in
    let same : files_after s step.call ≡ s = sync-files s step.call skipped.0 in
    let opened : open_after (progress s large q) step.call ≡ q = sync-open (progress s large q) step.call skipped.0 in
    let more : List Event = large ++ events_next sizes many_number (progress s large q) step.call in
    let next : run_body sizes (many_number + 1) (progress s more q) many ≡ Ok out =
    ap (λ (g : Files). run_body sizes (many_number + 1) (progress g more q) many) (sym same)
    ∙ ap (λ (r : Option ℕ). run_body sizes (many_number + 1) (progress (files_after s step.call) more r) many) (sym opened) ∙ ok.1 in
    let behind : is_some q ≡ open_behind inside step.call = there ∙ sym (sync-behind inside step.call skipped.0) in
    walk stays sizes few_number (many_number + 1) s small more o q (open_behind inside step.call) few many behind skipped.3
    (follows-out stays sizes few_number many_number (with_names s step.call) step.call small large o q (there ∙ skipped.2) skipped.0 skipped.1 f) out next
