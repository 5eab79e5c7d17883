-- Some of the sites of a test, in their order, and which calls and events stay with them.
use Rattle.std.specs.Prelude.{◌≡◌, ◌⊎◌, ℕ, ◌+◌, ◌-◌, ◌≤◌, ◌==◌, Bool, true, false, cond, List, [], ◌∷◌, ◌++◌, length, slice_get, slice_index_or, Some, All}
use Rattle.std.specs.List.{AllZip}
use Rattle.std.specs.List.Sorted.{IsNonDecreasingBy}
use Rattle.litmus_syntax.specs.declared.site.Site.{Site}
use Rattle.litmus_syntax.specs.declared.call.Step.{Step}
use Rattle.fer_events.specs.declared.event.Event.{Event}
use Rattle.fer_events.specs.Orders.{IsEvent}

-- the sites of `few` are some of `many`, in their order
abbrev pub AreSome : List Site → List Site → Type 0
AreSome few [] = few ≡ []
AreSome few (site ∷ many) = ((rest : List Site) × (few ≡ site ∷ rest) × AreSome rest many) ⊎ AreSome few many

-- the sites that are present, by a truth value for each; a site without one isn't
abbrev pub sites_present : List Site → List Bool → List Site
sites_present [] present = []
sites_present (site ∷ sites) [] = []
sites_present (site ∷ sites) (here ∷ present) = cond here (site ∷ sites_present sites present) (sites_present sites present)

-- what is in `few` is in `many`
abbrev pub IsPartOf : List Bool → List Bool → Type 0
IsPartOf few many = AllZip (λ f m. f ≡ true → m ≡ true) few many

-- of the sites behind the body call of this number, which are present
abbrev pub present_at : ℕ → List Site → List Bool → List Bool
present_at number [] present = []
present_at number (site ∷ sites) [] = cond (site.after == number) (false ∷ present_at number sites []) (present_at number sites [])
present_at number (site ∷ sites) (here ∷ present) = cond (site.after == number) (here ∷ present_at number sites present) (present_at number sites present)

-- of the calls of a body with all sites, which stay where only some sites are present: each call of the body, and the
-- calls of the sites that are present
abbrev pub calls_present : ℕ → List Step → List Site → List Bool → List Bool
calls_present number [] sites present = []
calls_present number (step ∷ steps) sites present = true ∷ present_at number sites present ++ calls_present (number + 1) steps sites present

-- the call of this number stays
abbrev pub call_stays : List Bool → ℕ → Bool
call_stays stay call = slice_index_or stay (call - 1) false

-- the numbers, from `low` on, of the events whose calls stay
abbrev pub places_from : ℕ → (ℕ → Bool) → List Event → List ℕ
places_from low stays [] = []
places_from low stays (e ∷ events) = cond (stays e.call) (low ∷ places_from (low + 1) stays events) (places_from (low + 1) stays events)

-- the places, among the events of a test with all sites, of its events where only some sites are present
abbrev pub places_present : List Step → List Site → List Bool → List Event → List ℕ
places_present body sites present events = places_from 1 (call_stays (calls_present 1 body sites present)) events

-- the sites stand behind calls of the body, and in the order of these
pub record AreInOrder (body : List Step) (sites : List Site) : Type 0 where
  pub behind : All (λ site. (1 ≤ site.after) × (site.after ≤ length body)) sites
  pub rise : IsNonDecreasingBy (λ site. site.after) sites

-- the event of this number is the one of the i-th site, counted from 0: its call stands behind the body's calls up to the
-- site's and behind the sites before it
pub record IsSiteEvent (events : List Event) (sites : List Site) (i s : ℕ) : Type 0 where
  pub site : Site
  pub at : slice_get sites i ≡ Some site
  pub event : Event
  pub is : IsEvent events s event
  pub call : event.call ≡ site.after + i + 1
