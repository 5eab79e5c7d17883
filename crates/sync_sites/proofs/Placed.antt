-- What all sites are: formed syncs, outside transactions, behind calls of the body, in order.
use Rattle.std.proofs.Common.{◌≡◌, ℕ, zero, suc, ◌+◌, ◌-◌, ◌<◌, ◌≤◌, Bool, true, false, ◌&&◌, if◌then◌else◌, IsTrue, List, [], ◌∷◌, ◌++◌, length, map, take, get_or, Option, Some, None, All, refl, ◌∙◌, ap, inl, inr, arith, length-append}
use Rattle.std.specs.Prelude.{slice_get}
use Rattle.std.specs.List.{flat_map, range_with_len}
use Rattle.std.specs.List.Sorted.{IsNonDecreasingBy}
use Rattle.std.proofs.lemmas.Bool.{cases_lt}
use Rattle.std.proofs.lemmas.List.Elements.{All-nil, All-cons, All-append, All-map, All-weaker, All-get_or, All-contains}
use Rattle.std.proofs.lemmas.Option.{slice_get_within, get_or_from_slice_get}
use Rattle.std.proofs.lemmas.List.{get_or_append_left, get_or-append-add}
use Rattle.litmus_syntax.specs.declared.call.Call.{Call}
use Rattle.litmus_syntax.specs.declared.call.Call.TheVariants as call
use Rattle.litmus_syntax.specs.declared.call.Step.{Step}
use Rattle.litmus_syntax.specs.declared.site.SiteKind.{SiteKind}
use Rattle.litmus_syntax.specs.declared.site.SiteKind.TheVariants as kinds
use Rattle.litmus_syntax.specs.CallKinds.{is_sync}
use Rattle.litmus_syntax.specs.Forms.{is_formed_call, is_formed_path}
use Rattle.litmus_syntax.specs.Sites.{AreSyncs, StandOutside}
use Rattle.litmus_syntax.specs.Transactions.{calls_of, is_open}
use Rattle.fer_events.specs.declared.tables.SlotName.{SlotName}
use Rattle.fer_events.specs.Paths.{slot_path}
use Rattle.fer_events.specs.Tables.{Trace, IsTrace, file_count}
use Rattle.fer_events.specs.Truth.{item_at}
use Rattle.fer_events.proofs.Formed.{slots_paths_formed}
use Rattle.sync_sites.specs.SiteLists.{held_behind, touches_file, touches_dir, names_of, name_texts, least, sync_by, file_sync, dir_sync, single_syncs, syncs_behind, sites_behind, sites_of}

-- what holds of each list holds of all together
pub All-range : {X : Type 0} (P : X → Type 0) (f : ℕ → List X) (low n : ℕ) → ((k : ℕ) → low ≤ k → k < low + n → All P (f k)) → All P (flat_map f (range_with_len low n))
All-range P f low zero each = All-nil P
All-range P f low (suc n) each =
    All-append P (f low) (flat_map f (range_with_len (low + 1) n)) (each low (omega arith) (omega arith))
    (All-range P f (low + 1) n (λ k above below. each k (omega (arith, above)) (omega (arith, below))))

pub All-if : {X : Type 0} (P : X → Type 0) (b : Bool) (xs : List X) → (b ≡ true → All P xs) → All P (if b then xs else [])
All-if P true xs all = all refl
All-if P false xs all = All-nil P

All-unless : {X : Type 0} (P : X → Type 0) (b : Bool) (xs : List X) → (b ≡ false → All P xs) → All P (if b then [] else xs)
All-unless P true xs all = All-nil P
All-unless P false xs all = all refl

-- what holds of each sync behind a call holds of each site
pub sites_keep : (P : ℕ → Call → Type 0) (kind : SiteKind) (body : List Step) (t : Trace) → ((k : ℕ) → 1 ≤ k → k ≤ length body → is_open (take k (calls_of body)) ≡ false → All (P k) (syncs_behind kind k t))
    → All (λ site. P site.after site.call) (sites_of kind body t)
sites_keep P kind body t each =
    All-range (λ site. P site.after site.call) (sites_behind kind body t) 1 (length body) (λ k above below.
    All-unless (λ site. P site.after site.call) (is_open (take k (calls_of body))) (map (λ c. record { after = k; call = c }) (syncs_behind kind k t)) (λ shut.
    All-map (λ site. P site.after site.call) (λ c. record { after = k; call = c }) (syncs_behind kind k t) (each k above (omega (arith, below)) shut)))

-- what holds of fsyncs of names and of directories, and of `sync`, holds of each sync
pub syncs_keep : (P : Call → Type 0) (kind : SiteKind) (k : ℕ) (t : Trace)
    → ((file slot : ℕ) (name : SlotName) → least (name_texts t) (names_of (held_behind k t) file) ≡ Some slot → slice_get t.slots slot ≡ Some name → touches_file k t file ≡ true → P (call.Fsync (slot_path t.dirs name)))
    → ((dir : ℕ) → dir < length t.dirs → touches_dir k t dir ≡ true → P (call.FsyncDir (get_or t.dirs dir [])))
    → P call.Sync → All P (syncs_behind kind k t)
syncs_keep P kind k t files dirs all = of_kind kind
  where
    named : (file : ℕ) (slot : Option ℕ) → least (name_texts t) (names_of (held_behind k t) file) ≡ slot → touches_file k t file ≡ true → (name : Option SlotName) → item_at t.slots slot ≡ name → All P (sync_by t name)
    named file slot best touched None is = All-nil P
    named file None best touched (Some name) is = cc
    named file (Some slot) best touched (Some name) is = All-cons P (call.Fsync (slot_path t.dirs name)) [] (files file slot name best is touched) (All-nil P)

    singles : All P (single_syncs k t)
    singles =
        All-append P (flat_map (file_sync k t) (range_with_len 0 (file_count t))) (flat_map (dir_sync k t) (range_with_len 0 (length t.dirs)))
        (All-range P (file_sync k t) 0 (file_count t) (λ file low high.
        let best : Option ℕ = least (name_texts t) (names_of (held_behind k t) file) in
        All-if P (touches_file k t file) (sync_by t (item_at t.slots best)) (λ touched. named file best refl touched (item_at t.slots best) refl)))
        (All-range P (dir_sync k t) 0 (length t.dirs) (λ dir low high.
        All-if P (touches_dir k t dir) (call.FsyncDir (get_or t.dirs dir []) ∷ []) (λ touched. All-cons P (call.FsyncDir (get_or t.dirs dir [])) [] (dirs dir (omega (arith, high)) touched) (All-nil P))))

    one : All P (call.Sync ∷ [])
    one = All-cons P call.Sync [] all (All-nil P)

    of_kind : (kind : SiteKind) → All P (syncs_behind kind k t)
    of_kind kinds.Fsync = singles
    of_kind kinds.Sync = one
    of_kind kinds.All = All-append P (single_syncs k t) (call.Sync ∷ []) singles one

pub are_syncs : (kind : SiteKind) (body : List Step) (t : Trace) → IsTrace t → AreSyncs (sites_of kind body t)
are_syncs kind body t rules =
    let P : Call → Type 0 = λ c. IsTrue (is_sync c && is_formed_call c) in
    let formed : SlotName → Type 0 = λ name. IsTrue (is_formed_path (slot_path t.dirs name)) in
    let formed_dir : List (List ℕ) → Type 0 = λ dir. IsTrue (is_formed_path dir) in
    sites_keep (λ k. P) kind body t (λ k above below shut.
    syncs_keep P kind k t
    (λ file slot name best there touched.
    All-contains formed t.slots name (slots_paths_formed t rules) (slot, slice_get_within t.slots slot name there, get_or_from_slice_get t.slots slot name name there))
    (λ dir there touched. All-get_or formed_dir t.dirs dir [] there rules.dirs_formed)
    refl)

pub stand_outside : (kind : SiteKind) (body : List Step) (t : Trace) → StandOutside body (sites_of kind body t)
stand_outside kind body t =
    sites_keep (λ k c. is_open (take k (calls_of body)) ≡ false) kind body t (λ k above below shut. All-same (is_open (take k (calls_of body)) ≡ false) shut (syncs_behind kind k t))
  where
    All-same : (Q : Type 0) → Q → (cs : List Call) → All (λ (c : Call). Q) cs
    All-same Q q cs = λ i d h. q

pub stand_behind : (kind : SiteKind) (body : List Step) (t : Trace) → All (λ site. (1 ≤ site.after) × (site.after ≤ length body)) (sites_of kind body t)
stand_behind kind body t =
    sites_keep (λ k c. (1 ≤ k) × (k ≤ length body)) kind body t (λ k above below shut. λ i d h. (above, below))

-- numbers that don't fall in two lists, the first not above the second, don't fall in both together
rise_behind : {X : Type 0} (f : X → ℕ) (m : ℕ) (xs ys : List X) → IsNonDecreasingBy f xs → IsNonDecreasingBy f ys → All (λ e. f e ≤ m) xs → All (λ e. m ≤ f e) ys → IsNonDecreasingBy f (xs ++ ys)
rise_behind f m xs ys first second below above = λ i j d l h. elim (cases_lt j (length xs)) [
  | inl near ↦ rw (get_or_append_left xs ys d i (omega (arith, l, near)), get_or_append_left xs ys d j near) (first i j d l near)
  | inr far ↦ elim (cases_lt i (length xs)) [
    | inl split ↦ omega (arith, ap f (get_or_append_left xs ys d i split), below i d split, ap f (behind xs ys j d far), above (j - length xs) d (omega (arith, h, length-append xs ys)))
    | inr both ↦ omega (arith, ap f (behind xs ys i d both), ap f (behind xs ys j d far), second (i - length xs) (j - length xs) d (omega (arith, l, both)) (omega (arith, h, far, length-append xs ys)))
  ]
]
  where
    behind : {X : Type 0} (xs ys : List X) (k : ℕ) (d : X) → length xs ≤ k → get_or (xs ++ ys) k d ≡ get_or ys (k - length xs) d
    behind xs ys k d far = ap (λ (n : ℕ). get_or (xs ++ ys) n d) (omega (arith, far)) ∙ get_or-append-add xs ys (k - length xs) d

-- the sites behind call k are behind call k
all_there : (kind : SiteKind) (body : List Step) (t : Trace) (k : ℕ) → All (λ site. site.after ≡ k) (sites_behind kind body t k)
all_there kind body t k =
    All-unless (λ site. site.after ≡ k) (is_open (take k (calls_of body))) (map (λ c. record { after = k; call = c }) (syncs_behind kind k t)) (λ shut.
    All-map (λ site. site.after ≡ k) (λ c. record { after = k; call = c }) (syncs_behind kind k t) (λ i d h. refl))

rising : (kind : SiteKind) (body : List Step) (t : Trace) (low n : ℕ) → IsNonDecreasingBy (λ site. site.after) (flat_map (sites_behind kind body t) (range_with_len low n))
rising kind body t low zero = λ i j d l h. absurd (omega (arith, h))
rising kind body t low (suc n) =
    let here = all_there kind body t low in
    rise_behind (λ site. site.after) low (sites_behind kind body t low) (flat_map (sites_behind kind body t) (range_with_len (low + 1) n))
    (λ i j d l h. omega (arith, here i d (omega (arith, l, h)), here j d h))
    (rising kind body t (low + 1) n)
    (All-weaker (λ site. site.after ≡ low) (λ site. site.after ≤ low) (λ site h. omega (arith, h)) (sites_behind kind body t low) here)
    (All-range (λ site. low ≤ site.after) (sites_behind kind body t) (low + 1) n (λ k above below.
    All-weaker (λ site. site.after ≡ k) (λ site. low ≤ site.after) (λ site h. omega (arith, h, above)) (sites_behind kind body t k) (all_there kind body t k)))

pub in_order : (kind : SiteKind) (body : List Step) (t : Trace) → IsNonDecreasingBy (λ site. site.after) (sites_of kind body t)
in_order kind body t = rising kind body t 1 (length body)
