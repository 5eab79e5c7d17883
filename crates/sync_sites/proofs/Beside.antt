-- A body with syncs beside the body without them: where its syncs find what they wait for, it isn't refused.
use Rattle.std.proofs.Common.{◌≡◌, ℕ, suc, ◌+◌, ◌≤◌, inl, inr, Bool, true, false, List, [], ◌∷◌, ◌++◌, length, map, take, Option, None, Ok, All, refl, sym, ◌∙◌, ap, subst, arith, append_assoc, length-append}
use Rattle.std.specs.Prelude.{count_by, nat_lt, nat_le, filter, ◌==◌}
use Rattle.std.specs.Option.{option_or}
use Rattle.std.proofs.Math.Seq.{take-append_seam}
use Rattle.std.proofs.lemmas.Bool.{cases_Bool, cases_lt}
use Rattle.std.proofs.lemmas.Bool.Decides.{nat_tests}
use Rattle.std.proofs.lemmas.List.{append-nil}
use Rattle.std.proofs.lemmas.List.Elements.{All-nil, All-cons, All-head, All-tail, All-append, All-weaker, All-filter}
use Rattle.litmus_syntax.specs.declared.call.Call.{Call}
use Rattle.litmus_syntax.specs.declared.call.Step.{Step}
use Rattle.litmus_syntax.specs.declared.site.Site.{Site}
use Rattle.litmus_syntax.specs.CallKinds.{is_sync}
use Rattle.litmus_syntax.specs.Sites.{inserted_at, with_sites}
use Rattle.fer_events.specs.declared.event.Event.{Event}
use Rattle.call_events.specs.declared.files.Files.{Files}
use Rattle.call_events.specs.declared.files.Progress.{Progress}
use Rattle.call_events.specs.declared.making.Sizes.{Sizes}
use Rattle.call_events.specs.declared.call_kind.CallKind.{CallKind}
use Rattle.call_events.specs.declared.call_kind.CallKind.TheVariants.{TooManyEvents}
use Rattle.call_events.specs.Refusals.{kind_if, refusal, too_many, events_full}
use Rattle.call_events.specs.Changes.{with_names, files_after}
use Rattle.call_events.specs.CallEvents.{events_of}
use Rattle.call_events.specs.Running.{unless_refused, stamp_of, events_next, after_call, body_refusal, run_body}
use Rattle.call_events.specs.Runs.{isnt_sync}
use Rattle.call_events.proofs.Keeping.{first_none, second_none, test_fails}
use Rattle.call_events.proofs.Runs.{count_append, few_events, IsNext, events_next_txns}
use Rattle.sync_sites.proofs.TestRuns.{accepted, same_ok}
use Rattle.sync_sites.proofs.Counted.{calls_counted, sync_idle}

-- what a body left, and what it left with so many syncs more
pub record IsBeside (p more : Progress) (extra : ℕ) : Type 0 where
  pub files : more.files ≡ p.files
  pub changes : count_by isnt_sync more.events ≡ count_by isnt_sync p.events
  pub few : count_by isnt_sync p.events ≤ 64
  pub long : length more.events ≡ length p.events + extra

not_many : (events : List Event) → count_by isnt_sync events ≤ 64 → length events ≤ 128 → too_many events ≡ false
not_many events few short =
    let a : nat_lt 64 (count_by isnt_sync events) ≡ false = grind (arith, nat_tests) in
    let b : nat_lt 128 (length events) ≡ false = grind (arith, nat_tests) in
    rw (a, b) refl

none_of : (o : Option CallKind) (full : Bool) (kind : CallKind) → o ≡ None → full ≡ false → option_or o (kind_if full kind) ≡ None
none_of o full kind e f = rw (e, f) refl

-- a call of both
both_run : (sizes : Sizes) (n m : ℕ) (p more : Progress) (extra : ℕ) (call : Call) → body_refusal sizes n p call ≡ None → IsBeside p more extra → length (after_call sizes n p call).events + extra ≤ 128
    → (body_refusal sizes m more call ≡ None) × IsBeside (after_call sizes n p call) (after_call sizes m more call) extra
both_run sizes n m p more extra call here beside room =
    let few : List Event = events_next sizes n p call in
    let many : List Event = events_next sizes m more call in
    let first : refusal p.files call ≡ None = first_none (refusal p.files call) (events_full p.events few) here in
    let full : too_many (p.events ++ few) ≡ false = test_fails (too_many (p.events ++ few)) TooManyEvents (second_none (refusal p.files call) (events_full p.events few) here) in
    let bounds : (count_by isnt_sync (p.events ++ few) ≤ 64) × (length (p.events ++ few) ≤ 128) = few_events (p.events ++ few) full in
    let same : many ≡ events_of sizes (stamp_of m more) (with_names p.files call) call = ap (λ (s : Files). events_of sizes (stamp_of m more) (with_names s call) call) beside.files in
    let alike = calls_counted sizes (stamp_of m more) (stamp_of n p) (with_names p.files call) call in
    let long : length many ≡ length few = ap (λ (es : List Event). length es) same ∙ alike.long in
    let changes : count_by isnt_sync many ≡ count_by isnt_sync few = ap (count_by isnt_sync) same ∙ alike.changes in
    let all_changes : count_by isnt_sync (more.events ++ many) ≡ count_by isnt_sync (p.events ++ few) =
    omega (arith, changes, beside.changes, count_append more.events many, count_append p.events few) in
    let all_long : length (more.events ++ many) ≡ length (p.events ++ few) + extra =
    omega (arith, long, beside.long, length-append more.events many, length-append p.events few) in (
      none_of (refusal more.files call) (too_many (more.events ++ many)) TooManyEvents (ap (λ (s : Files). refusal s call) beside.files ∙ first)
          (not_many (more.events ++ many) (omega (arith, all_changes, bounds.0)) (omega (arith, all_long, room))),
      record {
        files = ap (λ (s : Files). files_after s call) beside.files;
        changes = all_changes;
        few = bounds.0;
        long = all_long;
      },
    )

-- a sync of the body with syncs
sync_run : (sizes : Sizes) (m : ℕ) (p more : Progress) (extra : ℕ) (call : Call) → is_sync call ≡ true → refusal p.files call ≡ None → IsBeside p more extra → length p.events + (extra + 1) ≤ 128
    → (body_refusal sizes m more call ≡ None) × IsBeside p (after_call sizes m more call) (extra + 1)
sync_run sizes m p more extra call sync here beside room =
    let idle = sync_idle sizes (stamp_of m more) (with_names more.files call) call sync in
    let still = sync_idle sizes (stamp_of m more) more.files call sync in
    let many : List Event = events_next sizes m more call in
    let changes : count_by isnt_sync (more.events ++ many) ≡ count_by isnt_sync p.events = omega (arith, idle.none, beside.changes, count_append more.events many) in
    let long : length (more.events ++ many) ≡ length p.events + (extra + 1) = omega (arith, idle.one, beside.long, length-append more.events many) in (
      none_of (refusal more.files call) (too_many (more.events ++ many)) TooManyEvents (ap (λ (s : Files). refusal s call) beside.files ∙ here)
          (not_many (more.events ++ many) (omega (arith, changes, beside.few)) (omega (arith, long, room))),
      record { files = still.after ∙ beside.files; changes = changes; few = beside.few; long = long },
    )

-- the syncs behind one call
syncs_run : (sizes : Sizes) (line m : ℕ) (p more : Progress) (extra : ℕ) (here : List Site) (rest : List Step) → All (λ s. is_sync s.call ≡ true) here → All (λ s. refusal p.files s.call ≡ None) here
    → IsBeside p more extra → length p.events + (extra + length here) ≤ 128
    → (next : Progress) × IsBeside p next (extra + length here) × (run_body sizes m more (map (λ s. record { line = line; call = s.call }) here ++ rest) ≡ run_body sizes (m + length here) next rest)
syncs_run sizes line m p more extra [] rest syncs found beside room =
    let e : extra ≡ extra + 0 = omega arith in
    let f : m ≡ m + 0 = omega arith in
    (more, subst (IsBeside p more) e beside, ap (λ (k : ℕ). run_body sizes k more rest) f)
syncs_run sizes line m p more extra (s ∷ here) rest syncs found beside room =
    let later : Progress = after_call sizes m more s.call in
    let steps : List Step = map (λ s. record { line = line; call = s.call }) here ++ rest in
    let one = sync_run sizes m p more extra s.call (All-head (λ s. is_sync s.call ≡ true) s here syncs) (All-head (λ s. refusal p.files s.call ≡ None) s here found) beside (omega (arith, room)) in
    let next = syncs_run sizes line (m + 1) p later (extra + 1) here rest (All-tail (λ s. is_sync s.call ≡ true) s here syncs) (All-tail (λ s. refusal p.files s.call ≡ None) s here found) one.1 (omega (arith, room)) in
    let e : extra + 1 + length here ≡ extra + suc (length here) = omega arith in
    let f : m + 1 + length here ≡ m + suc (length here) = omega arith in (
      next.0,
      subst (IsBeside p next.0) e next.1,
      ap (λ (o : Option CallKind). unless_refused o line (run_body sizes (m + 1) later steps)) one.0 ∙ next.2 ∙ ap (λ (k : ℕ). run_body sizes k next.0 rest) f,
    )

-- the sites behind one call, and how many are behind it or a later one
abbrev pub sites_at : ℕ → List Site → List Site
sites_at n sites = filter (λ s. s.after == n) sites

abbrev pub sites_from : ℕ → List Site → ℕ
sites_from n sites = length (filter (λ s. nat_le n s.after) sites)

counted : (n : ℕ) (sites : List Site) → length (sites_at n sites) + sites_from (n + 1) sites ≡ sites_from n sites
counted n [] = refl
counted n (s ∷ sites) = elim (cases_lt s.after n) [
  | inl before ↦
      let a : (s.after == n) ≡ false = grind (arith, nat_tests) in
      let b : nat_le (n + 1) s.after ≡ false = grind (arith, nat_tests) in
      let c : nat_le n s.after ≡ false = grind (arith, nat_tests) in
      rw (a, b, c) (counted n sites)
  | inr from ↦ elim (cases_lt n s.after) [
    | inl behind ↦
        let a : (s.after == n) ≡ false = grind (arith, nat_tests) in
        let b : nat_le (n + 1) s.after ≡ true = grind (arith, nat_tests) in
        let c : nat_le n s.after ≡ true = grind (arith, nat_tests) in
        rw (a, b, c) (omega (arith, counted n sites))
    | inr upto ↦
        let a : (s.after == n) ≡ true = grind (arith, nat_tests) in
        let b : nat_le (n + 1) s.after ≡ false = grind (arith, nat_tests) in
        let c : nat_le n s.after ≡ true = grind (arith, nat_tests) in
        rw (a, b, c) (omega (arith, counted n sites))
  ]
]

-- what holds of each site by its place holds of those at a place
at_place_all : (Q : ℕ → Call → Type 0) (n : ℕ) (sites : List Site) → All (λ s. Q s.after s.call) sites → All (λ s. Q n s.call) (sites_at n sites)
at_place_all Q n [] all = All-nil (λ s. Q n s.call)
at_place_all Q n (s ∷ sites) all =
    let rest = at_place_all Q n sites (All-tail (λ s. Q s.after s.call) s sites all) in
    elim (cases_Bool (s.after == n)) [
      | inl here ↦
          let same : s.after ≡ n = grind (arith, nat_tests) in
          rw here (All-cons (λ s. Q n s.call) s (sites_at n sites) (subst (λ (k : ℕ). Q k s.call) same (All-head (λ s. Q s.after s.call) s sites all)) rest)
      | inr elsewhere ↦ rw elsewhere rest
    ]

-- a run goes on where its first part ended
pub run_on : (sizes : Sizes) (n : ℕ) (p q : Progress) (front back : List Step) → run_body sizes n p front ≡ Ok q → run_body sizes n p (front ++ back) ≡ run_body sizes (n + length front) q back
run_on sizes n p q [] back h = let e : n ≡ n + 0 = omega arith in ap (λ (k : ℕ). run_body sizes k p back) e ∙ ap (λ (r : Progress). run_body sizes (n + 0) r back) (same_ok p q h)
run_on sizes n p q (step ∷ front) back h =
    let next : Progress = after_call sizes n p step.call in
    let both = accepted (body_refusal sizes n p step.call) step.line (run_body sizes (n + 1) next front) q h in
    let e : n + 1 + length front ≡ n + suc (length front) = omega arith in
    ap (λ (o : Option CallKind). unless_refused o step.line (run_body sizes (n + 1) next (front ++ back))) both.0
    ∙ run_on sizes (n + 1) next q front back both.1
    ∙ ap (λ (k : ℕ). run_body sizes k q back) e

-- a run only adds events, of the calls that it runs
pub run_adds : (sizes : Sizes) (n : ℕ) (p q : Progress) (steps : List Step) → run_body sizes n p steps ≡ Ok q → (more : List Event) × (q.events ≡ p.events ++ more) × All (λ e. n ≤ e.call) more
run_adds sizes n p q [] h = ([], ap (λ (r : Progress). r.events) (sym (same_ok p q h)) ∙ sym (append-nil p.events), All-nil (λ e. n ≤ e.call))
run_adds sizes n p q (step ∷ steps) h =
    let next : Progress = after_call sizes n p step.call in
    let new : List Event = events_next sizes n p step.call in
    let both = accepted (body_refusal sizes n p step.call) step.line (run_body sizes (n + 1) next steps) q h in
    let rest = run_adds sizes (n + 1) next q steps both.1 in (
      new ++ rest.0,
      rest.1 ∙ append_assoc p.events new rest.0,
      All-append (λ e. n ≤ e.call) new rest.0
          (All-weaker (IsNext (stamp_of n p) (length new)) (λ e. n ≤ e.call) (λ e is. omega (arith, is.0)) new (events_next_txns sizes (stamp_of n p) (with_names p.files step.call) step.call))
          (All-weaker (λ e. n + 1 ≤ e.call) (λ e. n ≤ e.call) (λ e is. omega (arith, is)) rest.0 rest.2),
    )

-- each site's call finds what it waits for among the files that the first calls leave
abbrev pub AreFound : Sizes → Progress → List Step → List Site → Type 0
AreFound sizes start body sites = All (λ s. (p : Progress) → run_body sizes 1 start (take s.after body) ≡ Ok p → refusal p.files s.call ≡ None) sites

pub walk : (sizes : Sizes) (body : List Step) (sites : List Site) (start : Progress) (n m : ℕ) (front steps : List Step) (p more q : Progress) (extra : ℕ) → body ≡ front ++ steps → n ≡ length front + 1
    → run_body sizes 1 start front ≡ Ok p → run_body sizes n p steps ≡ Ok q → All (λ s. is_sync s.call ≡ true) sites → AreFound sizes start body sites → IsBeside p more extra
    → length q.events + (extra + sites_from n sites) ≤ 128
    → (out : Progress) × (count : ℕ) × IsBeside q out count × (run_body sizes m more (with_sites n steps sites) ≡ Ok out)
walk sizes body sites start n m front [] p more q extra whole at began h syncs found beside room =
    (more, extra, subst (λ (r : Progress). IsBeside r more extra) (same_ok p q h) beside, refl)
walk sizes body sites start n m front (step ∷ steps) p more q extra whole at began h syncs found beside room =
    let next : Progress = after_call sizes n p step.call in
    let later : Progress = after_call sizes m more step.call in
    let front1 : List Step = front ++ step ∷ [] in
    let both = accepted (body_refusal sizes n p step.call) step.line (run_body sizes (n + 1) next steps) q h in
    let adds = run_adds sizes (n + 1) next q steps both.1 in
    let grown : length next.events ≤ length q.events = omega (arith, ap (λ (es : List Event). length es) adds.1, length-append next.events adds.0) in
    let count = counted n sites in
    let first = both_run sizes n m p more extra step.call both.0 beside (omega (arith, grown, room)) in
    let long : length front1 ≡ n = omega (arith, at, length-append front (step ∷ [])) in
    let whole1 : body ≡ front1 ++ steps = whole ∙ sym (append_assoc front (step ∷ []) steps) in
    let first_part : take n body ≡ front1 =
    ap (λ (b : List Step). take n b) whole1 ∙ ap (λ (k : ℕ). take k (front1 ++ steps)) (sym long) ∙ take-append_seam front1 steps in
    let number : 1 + length front ≡ n = omega (arith, at) in
    let began1 : run_body sizes 1 start front1 ≡ Ok next =
    run_on sizes 1 start p front (step ∷ []) began
    ∙ ap (λ (k : ℕ). run_body sizes k p (step ∷ [])) number
    ∙ ap (λ (o : Option CallKind). unless_refused o step.line (Ok next)) both.0 in
    let here : List Site = sites_at n sites in
    let Q : ℕ → Call → Type 0 = λ k c. (r : Progress) → run_body sizes 1 start (take k body) ≡ Ok r → refusal r.files c ≡ None in
    let found_here : All (λ s. refusal next.files s.call ≡ None) here =
    All-weaker (λ s. Q n s.call) (λ s. refusal next.files s.call ≡ None) (λ s f. f next (ap (run_body sizes 1 start) first_part ∙ began1)) here (at_place_all Q n sites found) in
    let ins = syncs_run sizes step.line (m + 1) next later extra here (with_sites (n + 1) steps sites)
    (All-filter (λ s. s.after == n) (λ s. is_sync s.call ≡ true) sites syncs) found_here first.1 (omega (arith, grown, room, count)) in
    let rest = walk sizes body sites start (n + 1) (m + 1 + length here) front1 steps next ins.0 q (extra + length here) whole1 (omega (arith, long)) began1 both.1 syncs found ins.1 (omega (arith, room, count)) in (
      rest.0,
      rest.1,
      rest.2,
      ap (λ (o : Option CallKind). unless_refused o step.line (run_body sizes (m + 1) later (inserted_at n step.line sites ++ with_sites (n + 1) steps sites))) first.0
          ∙ ins.2 ∙ rest.3,
    )
