-- Laws of transactions: syncs that are inserted outside of them open none, and stand where they may.
use Rattle.std.proofs.Common.{arith, ◌≡◌, ℕ, suc, ◌+◌, ◌-◌, ◌≤◌, ◌==◌, Bool, true, false, not, ◌&&◌, IsTrue, if◌then◌else◌, List, [], ◌∷◌, ◌++◌, All, map, filter, fold, take, refl, sym, subst, ◌∙◌, ap}
use Rattle.std.proofs.lemmas.Bool.{false≢true, eqb-true}
use Rattle.std.proofs.lemmas.List.{map-append}
use Rattle.std.proofs.lemmas.List.Elements.{All-head, All-tail, All-weaker}
use Rattle.litmus_syntax.specs.declared.call.Call.{Call}
use Rattle.litmus_syntax.specs.declared.call.Call.TheVariants as call
use Rattle.litmus_syntax.specs.declared.call.Step.{Step}
use Rattle.litmus_syntax.specs.declared.site.Site.{Site}
use Rattle.litmus_syntax.specs.CallKinds.{is_sync, is_boundary}
use Rattle.litmus_syntax.specs.Forms.{is_formed_call}
use Rattle.litmus_syntax.specs.Transactions.{calls_of, open_behind, suits, all_suit}
use Rattle.litmus_syntax.specs.Sites.{AreSyncs, StandOutside, inserted_at, with_sites}

-- what a call does that may stand outside of transactions and doesn't touch them
pub record IsNeutral (c : Call) : Type 0 where
  pub suits : suits false c ≡ true
  pub opens : (inside : Bool) → open_behind inside c ≡ inside
  pub inner : is_boundary c ≡ false

sync_is_neutral : (c : Call) → IsTrue (is_sync c && is_formed_call c) → IsNeutral c
sync_is_neutral (call.Mkdir path) synced = absurd (false≢true synced)
sync_is_neutral (call.Create path) synced = absurd (false≢true synced)
sync_is_neutral (call.Write path at text) synced = absurd (false≢true synced)
sync_is_neutral (call.Append path text) synced = absurd (false≢true synced)
sync_is_neutral (call.Truncate path size) synced = absurd (false≢true synced)
sync_is_neutral (call.Link from to) synced = absurd (false≢true synced)
sync_is_neutral (call.Unlink path) synced = absurd (false≢true synced)
sync_is_neutral (call.Rename from to) synced = absurd (false≢true synced)
sync_is_neutral (call.Attr path key value) synced = absurd (false≢true synced)
sync_is_neutral (call.Fsync path) synced = record { suits = refl; opens = λ inside. refl; inner = refl }
sync_is_neutral (call.FsyncDir path) synced = record { suits = refl; opens = λ inside. refl; inner = refl }
sync_is_neutral call.Sync synced = record { suits = refl; opens = λ inside. refl; inner = refl }
sync_is_neutral (call.Mark word) synced = absurd (false≢true synced)
sync_is_neutral call.Begin synced = absurd (false≢true synced)
sync_is_neutral call.Commit synced = absurd (false≢true synced)

abbrev IsFormedSync : Site → Type 0
IsFormedSync site = IsTrue (is_sync site.call && is_formed_call site.call)

abbrev in_line : ℕ → Site → Step
in_line line site = record { line = line; call = site.call }

-- what is inserted is neutral
pub sites_are_neutral : (sites : List Site) → AreSyncs sites → All (λ site. IsNeutral site.call) sites
sites_are_neutral sites syncs = All-weaker IsFormedSync (λ site. IsNeutral site.call) (λ site synced. sync_is_neutral site.call synced) sites syncs

abbrev pub AreNeutral : List Site → Type 0
AreNeutral sites = All (λ site. IsNeutral site.call) sites

abbrev chosen_of : Bool → ℕ → ℕ → Site → List Site → List Step
chosen_of chosen number line site sites =
    map (in_line line) (if chosen then site ∷ filter (λ s. s.after == number) sites else filter (λ s. s.after == number) sites)

-- a call that is inserted opens and closes nothing
open_if_chosen : (chosen inside : Bool) (number line : ℕ) (site : Site) (sites : List Site) → IsNeutral site.call → (rest : List Call)
    → fold open_behind inside (calls_of (inserted_at number line sites) ++ rest) ≡ fold open_behind inside rest
    → fold open_behind inside (calls_of (chosen_of chosen number line site sites) ++ rest) ≡ fold open_behind inside rest
open_if_chosen true inside number line site sites neutral rest others =
    ap (λ (b : Bool). fold open_behind b (calls_of (inserted_at number line sites) ++ rest)) (neutral.opens inside) ∙ others
open_if_chosen false inside number line site sites neutral rest others = others

inserted_open : (inside : Bool) (number line : ℕ) (sites : List Site) → AreNeutral sites → (rest : List Call)
    → fold open_behind inside (calls_of (inserted_at number line sites) ++ rest) ≡ fold open_behind inside rest
inserted_open inside number line [] neutral rest = refl
inserted_open inside number line (site ∷ sites) neutral rest =
    open_if_chosen (site.after == number) inside number line site sites (All-head (λ (s : Site). IsNeutral s.call) site sites neutral) rest
    (inserted_open inside number line sites (All-tail (λ (s : Site). IsNeutral s.call) site sites neutral) rest)

-- behind a body with sites a transaction is open where one is without them
pub same_open : (inside : Bool) (number : ℕ) (steps : List Step) (sites : List Site) → AreNeutral sites
    → fold open_behind inside (calls_of (with_sites number steps sites)) ≡ fold open_behind inside (calls_of steps)
same_open inside number [] sites neutral = refl
same_open inside number (step ∷ steps) sites neutral =
    let added = inserted_at number step.line sites in
    let rest = with_sites (number + 1) steps sites in
    ap (fold open_behind (open_behind inside step.call)) (map-append (λ (s : Step). s.call) added rest)
    ∙ inserted_open (open_behind inside step.call) number step.line sites neutral (calls_of rest)
    ∙ same_open (open_behind inside step.call) (number + 1) steps sites neutral

-- where sites stand behind a call, no transaction is open
abbrev AreOutside : Bool → ℕ → List Step → List Site → Type 0
AreOutside inside number steps sites = All (λ site. number ≤ site.after → fold open_behind inside (take (site.after + 1 - number) (calls_of steps)) ≡ false) sites

outside_at_first : (body : List Step) (sites : List Site) → StandOutside body sites → AreOutside false 1 body sites
outside_at_first body sites outside =
    All-weaker (λ (s : Site). fold open_behind false (take s.after (calls_of body)) ≡ false) (λ (s : Site). 1 ≤ s.after → fold open_behind false (take (s.after + 1 - 1) (calls_of body)) ≡ false)
    (λ site out some.
    let e : site.after ≡ site.after + 1 - 1 = omega arith in
    subst (λ (k : ℕ). fold open_behind false (take k (calls_of body)) ≡ false) e out)
    sites outside

outside_behind : (inside : Bool) (number : ℕ) (step : Step) (steps : List Step) (sites : List Site)
    → AreOutside inside number (step ∷ steps) sites → AreOutside (open_behind inside step.call) (number + 1) steps sites
outside_behind inside number step steps sites outside =
    All-weaker (λ (s : Site). number ≤ s.after → fold open_behind inside (take (s.after + 1 - number) (step.call ∷ calls_of steps)) ≡ false)
    (λ (s : Site). number + 1 ≤ s.after → fold open_behind (open_behind inside step.call) (take (s.after + 1 - (number + 1)) (calls_of steps)) ≡ false)
    (λ site out later.
    let e : site.after + 1 - number ≡ suc (site.after + 1 - (number + 1)) = omega arith in
    subst (λ (k : ℕ). fold open_behind inside (take k (step.call ∷ calls_of steps)) ≡ false) e (out (omega arith)))
    sites outside

-- behind the call of their number the sites find no open transaction
outside_here : (inside : Bool) (number : ℕ) (step : Step) (steps : List Step) (sites : List Site)
    → AreOutside inside number (step ∷ steps) sites → All (λ site. site.after ≡ number → open_behind inside step.call ≡ false) sites
outside_here inside number step steps sites outside =
    All-weaker (λ (s : Site). number ≤ s.after → fold open_behind inside (take (s.after + 1 - number) (step.call ∷ calls_of steps)) ≡ false)
    (λ (s : Site). s.after ≡ number → open_behind inside step.call ≡ false)
    (λ site out here.
    let e : site.after + 1 - number ≡ suc 0 = omega (arith, here) in
    subst (λ (k : ℕ). fold open_behind inside (take k (step.call ∷ calls_of steps)) ≡ false) e (out (omega (arith, here))))
    sites outside

-- what is inserted where no transaction is open may stand there
suit_if_chosen : (chosen inside : Bool) (number line : ℕ) (site : Site) (sites : List Site) → (site.after == number) ≡ chosen → IsNeutral site.call
    → (site.after ≡ number → inside ≡ false) → (rest : List Call)
    → all_suit inside (calls_of (inserted_at number line sites) ++ rest) ≡ all_suit inside rest
    → all_suit inside (calls_of (chosen_of chosen number line site sites) ++ rest) ≡ all_suit inside rest
suit_if_chosen true inside number line site sites is neutral outside rest others =
    let more = calls_of (inserted_at number line sites) ++ rest in
    let suit : suits inside site.call ≡ true = ap (λ (b : Bool). suits b site.call) (outside (eqb-true site.after number is)) ∙ neutral.suits in
    ap (λ (b : Bool). b && all_suit (open_behind inside site.call) more) suit
    ∙ ap (λ (b : Bool). all_suit b more) (neutral.opens inside)
    ∙ others
suit_if_chosen false inside number line site sites is neutral outside rest others = others

inserted_suit : (inside : Bool) (number line : ℕ) (sites : List Site) → AreNeutral sites → All (λ site. site.after ≡ number → inside ≡ false) sites → (rest : List Call)
    → all_suit inside (calls_of (inserted_at number line sites) ++ rest) ≡ all_suit inside rest
inserted_suit inside number line [] neutral outside rest = refl
inserted_suit inside number line (site ∷ sites) neutral outside rest =
    suit_if_chosen (site.after == number) inside number line site sites refl (All-head (λ (s : Site). IsNeutral s.call) site sites neutral)
    (All-head (λ (s : Site). s.after ≡ number → inside ≡ false) site sites outside) rest
    (inserted_suit inside number line sites (All-tail (λ (s : Site). IsNeutral s.call) site sites neutral)
    (All-tail (λ (s : Site). s.after ≡ number → inside ≡ false) site sites outside) rest)

same_suit_from : (inside : Bool) (number : ℕ) (steps : List Step) (sites : List Site) → AreNeutral sites → AreOutside inside number steps sites
    → all_suit inside (calls_of (with_sites number steps sites)) ≡ all_suit inside (calls_of steps)
same_suit_from inside number [] sites neutral outside = refl
same_suit_from inside number (step ∷ steps) sites neutral outside =
    let added = inserted_at number step.line sites in
    let rest = with_sites (number + 1) steps sites in
    let behind = open_behind inside step.call in
    let same : all_suit behind (calls_of (added ++ rest)) ≡ all_suit behind (calls_of steps) =
    ap (all_suit behind) (map-append (λ (s : Step). s.call) added rest)
    ∙ inserted_suit behind number step.line sites neutral (outside_here inside number step steps sites outside) (calls_of rest)
    ∙ same_suit_from behind (number + 1) steps sites neutral (outside_behind inside number step steps sites outside) in
    ap (λ (b : Bool). suits inside step.call && b) same

-- a body with sites outside of transactions is placed as well as the body without
pub same_suit : (body : List Step) (sites : List Site) → AreNeutral sites → StandOutside body sites
    → all_suit false (calls_of (with_sites 1 body sites)) ≡ all_suit false (calls_of body)
same_suit body sites neutral outside = same_suit_from false 1 body sites neutral (outside_at_first body sites outside)
