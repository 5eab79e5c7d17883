-- Laws of inserted calls.
use Rattle.std.proofs.Common.{◌≡◌, ℕ, suc, ◌+◌, ◌<◌, ◌≤◌, ◌==◌, Bool, true, false, not, ◌&&◌, IsTrue, if◌then◌else◌, List, [], ◌∷◌, ◌++◌, All, map, filter, drop, length, get_or, refl, sym, subst, ◌∙◌, ap, append_assoc, add-one}
use Rattle.std.proofs.Math.Seq.{drop-cons}
use Rattle.std.proofs.lemmas.List.{map-append}
use Rattle.std.proofs.lemmas.List.Elements.{All-cons, All-head, All-tail, All-append, All-map, All-filter, All-weaker, filter-append}
use Rattle.litmus_syntax.specs.declared.call.Call.{Call}
use Rattle.litmus_syntax.specs.declared.call.Call.TheVariants as call
use Rattle.litmus_syntax.specs.declared.call.Step.{Step}
use Rattle.litmus_syntax.specs.declared.site.Site.{Site}
use Rattle.litmus_syntax.specs.Test.{Test}
use Rattle.litmus_syntax.specs.CallKinds.{is_sync, is_body_call, is_boundary, sync_free}
use Rattle.litmus_syntax.specs.Forms.{is_formed_call}
use Rattle.litmus_syntax.specs.Limits.{IsWithinLimits}
use Rattle.litmus_syntax.specs.Sites.{AreSyncs, StandOutside, inserted_at, with_sites}
use Rattle.litmus_syntax.specs.Transactions.{calls_of}
use Rattle.litmus_syntax.proofs.Placing.{IsNeutral, sites_are_neutral, same_suit, same_open}

-- a call with its sites moves from the rest to the front
pub one_more_call : (sites : List Site) (front body whole : List Step) (k : ℕ) (step : Step) → k < length body → step ≡ get_or body k step
    → front ++ with_sites (k + 1) (drop k body) sites ≡ whole
    → ((front ++ step ∷ []) ++ inserted_at (k + 1) step.line sites) ++ with_sites (k + 1 + 1) (drop (k + 1) body) sites ≡ whole
one_more_call sites front body whole k step there is so_far =
    let rest : List Step = with_sites (k + 1 + 1) (drop (k + 1) body) sites in
    let added : List Step = inserted_at (k + 1) step.line sites in
    let cut : drop k body ≡ step ∷ drop (k + 1) body =
    drop-cons body k step there ∙ ap (λ (s : Step). s ∷ drop (suc k) body) (sym is) ∙ ap (λ (n : ℕ). step ∷ drop n body) (sym (add-one k)) in
    append_assoc (front ++ step ∷ []) added rest
    ∙ append_assoc front (step ∷ []) (added ++ rest)
    ∙ ap (λ (b : List Step). front ++ with_sites (k + 1) b sites) (sym cut)
    ∙ so_far

-- a step that a body may have
abbrev Belongs : Step → Type 0
Belongs step = IsTrue (is_body_call step.call && is_formed_call step.call)

-- a formed sync may stand in a body
sync_belongs : (c : Call) → IsTrue (is_sync c && is_formed_call c) → IsTrue (is_body_call c && is_formed_call c)
sync_belongs (call.Mkdir path) synced = cc
sync_belongs (call.Create path) synced = cc
sync_belongs (call.Write path at text) synced = cc
sync_belongs (call.Append path text) synced = cc
sync_belongs (call.Truncate path size) synced = cc
sync_belongs (call.Link from to) synced = cc
sync_belongs (call.Unlink path) synced = cc
sync_belongs (call.Rename from to) synced = cc
sync_belongs (call.Attr path key value) synced = cc
sync_belongs (call.Fsync path) synced = synced
sync_belongs (call.FsyncDir path) synced = synced
sync_belongs call.Sync synced = synced
sync_belongs (call.Mark word) synced = cc
sync_belongs call.Begin synced = cc
sync_belongs call.Commit synced = cc

is_synced : (a b : Bool) → IsTrue (a && b) → not a ≡ false
is_synced true b both = refl
is_synced false b both = cc

-- what is inserted belongs into a body
inserted_belong : (number line : ℕ) (sites : List Site) → AreSyncs sites → All Belongs (inserted_at number line sites)
inserted_belong number line sites syncs =
    All-map Belongs (λ (site : Site). record { line = line; call = site.call }) (filter (λ site. site.after == number) sites)
    (All-weaker (λ (site : Site). IsTrue (is_sync site.call && is_formed_call site.call)) (λ (site : Site). IsTrue (is_body_call site.call && is_formed_call site.call))
    (λ site synced. sync_belongs site.call synced) (filter (λ site. site.after == number) sites)
    (All-filter (λ site. site.after == number) (λ (site : Site). IsTrue (is_sync site.call && is_formed_call site.call)) sites syncs))

-- so a body with sites has only what a body may have
bodies_belong : (number : ℕ) (body : List Step) (sites : List Site) → AreSyncs sites → All Belongs body → All Belongs (with_sites number body sites)
bodies_belong number [] sites syncs all = all
bodies_belong number (step ∷ steps) sites syncs all =
    All-cons Belongs step (inserted_at number step.line sites ++ with_sites (number + 1) steps sites) (All-head Belongs step steps all)
    (All-append Belongs (inserted_at number step.line sites) (with_sites (number + 1) steps sites) (inserted_belong number step.line sites syncs)
    (bodies_belong (number + 1) steps sites syncs (All-tail Belongs step steps all)))

abbrev changes : Call → Bool
changes c = not (is_sync c)

none_kept : (line : ℕ) (sites : List Site) → AreSyncs sites → filter changes (calls_of (map (λ (site : Site). record { line = line; call = site.call }) sites)) ≡ []
none_kept line [] syncs = refl
none_kept line (site ∷ sites) syncs =
    let none : changes site.call ≡ false = is_synced (is_sync site.call) (is_formed_call site.call) (All-head (λ (s : Site). IsTrue (is_sync s.call && is_formed_call s.call)) site sites syncs) in
    let others = none_kept line sites (All-tail (λ (s : Site). IsTrue (is_sync s.call && is_formed_call s.call)) site sites syncs) in
    ap (λ (b : Bool). if b then site.call ∷ filter changes (calls_of (map (λ (s : Site). record { line = line; call = s.call }) sites)) else filter changes (calls_of (map (λ (s : Site). record { line = line; call = s.call }) sites))) none ∙ others

-- and no more calls that aren't syncs
same_changes : (number : ℕ) (body : List Step) (sites : List Site) → AreSyncs sites → sync_free (calls_of (with_sites number body sites)) ≡ sync_free (calls_of body)
same_changes number [] sites syncs = refl
same_changes number (step ∷ steps) sites syncs =
    let added = inserted_at number step.line sites in
    let rest = with_sites (number + 1) steps sites in
    let none : sync_free (calls_of added) ≡ [] = none_kept step.line (filter (λ site. site.after == number) sites)
    (All-filter (λ site. site.after == number) (λ (s : Site). IsTrue (is_sync s.call && is_formed_call s.call)) sites syncs) in
    let others : sync_free (calls_of (added ++ rest)) ≡ sync_free (calls_of steps) =
    ap sync_free (map-append (λ (s : Step). s.call) added rest)
    ∙ filter-append changes (calls_of added) (calls_of rest)
    ∙ ap (λ (cs : List Call). cs ++ sync_free (calls_of rest)) none
    ∙ same_changes (number + 1) steps sites syncs in
    ap (λ (cs : List Call). if changes step.call then step.call ∷ cs else cs) others

-- what is inserted begins and commits nothing
inserted_plain : (number line : ℕ) (sites : List Site) → AreSyncs sites → All (λ (step : Step). is_boundary step.call ≡ false) (inserted_at number line sites)
inserted_plain number line sites syncs =
    All-map (λ (step : Step). is_boundary step.call ≡ false) (λ (site : Site). record { line = line; call = site.call }) (filter (λ site. site.after == number) sites)
    (All-filter (λ site. site.after == number) (λ (s : Site). is_boundary s.call ≡ false) sites
    (All-weaker (λ (s : Site). IsNeutral s.call) (λ (s : Site). is_boundary s.call ≡ false) (λ site neutral. neutral.inner) sites (sites_are_neutral sites syncs)))

bodies_plain : (number : ℕ) (body : List Step) (sites : List Site) → AreSyncs sites → All (λ (step : Step). is_boundary step.call ≡ false) body
    → All (λ (step : Step). is_boundary step.call ≡ false) (with_sites number body sites)
bodies_plain number [] sites syncs all = all
bodies_plain number (step ∷ steps) sites syncs all =
    All-cons (λ (s : Step). is_boundary s.call ≡ false) step (inserted_at number step.line sites ++ with_sites (number + 1) steps sites)
    (All-head (λ (s : Step). is_boundary s.call ≡ false) step steps all)
    (All-append (λ (s : Step). is_boundary s.call ≡ false) (inserted_at number step.line sites) (with_sites (number + 1) steps sites) (inserted_plain number step.line sites syncs)
    (bodies_plain (number + 1) steps sites syncs (All-tail (λ (s : Step). is_boundary s.call ≡ false) step steps all)))

-- a test with syncs inserted where no transaction is open keeps to the limits
pub still_within : (l : Test) (sites : List Site) → AreSyncs sites → StandOutside l.body sites → IsWithinLimits l → IsWithinLimits (record l { body = with_sites 1 l.body sites })
still_within l sites syncs outside within = record {
  name = within.name;
  version = within.version;
  some_sector = within.some_sector;
  sector = within.sector;
  block = within.block;
  one_size = within.one_size;
  setup = within.setup;
  few_setup = within.few_setup;
  body = bodies_belong 1 l.body sites syncs within.body;
  few_body = subst (λ (cs : List Call). length cs ≤ 128) (sym (same_changes 1 l.body sites syncs)) within.few_body;
  placed = same_suit l.body sites (sites_are_neutral sites syncs) outside ∙ within.placed;
  closed = same_open false 1 l.body sites (sites_are_neutral sites syncs) ∙ within.closed;
  no_transactions = λ one. bodies_plain 1 l.body sites syncs (within.no_transactions one);
  pred = within.pred;
  short = within.short;
}
