use Rattle.std.proofs.Common.{◌≡◌, ◌==◌, get_or, Some, None, sym, ◌∙◌, ap}
use Rattle.std.specs.Prelude.{position, slice_get}
use Rattle.std.proofs.lemmas.Option.{slice_get-get_or}
use Rattle.fer_events.specs.declared.event.Event.{Event}
use Rattle.litmus_syntax.specs.declared.site.Site.{Site}
use Rattle.litmus_syntax.specs.declared.call.Call.TheVariants.{Sync}
use Rattle.sync_parts.proofs.SiteCalls.{found-site, found-none}
use Rattle.sync_parts.proofs.sites.event_of_site.Goals as goal

-- a site to read past the list, which isn't done
abbrev other : Site
other = record { after = 0; call = Sync }

pub returns-in-None : goal.returns-in-None
returns-in-None c = λ litmus syncs order h.
    let sites = c.args.sites.now in
    let site = get_or sites c.args.place other in
    let call = c.call_of_site-call.result in
    let at : slice_get sites c.args.place ≡ Some site = slice_get-get_or sites c.args.place other c.requires.there in
    let none : position (λ (e : Event). e.call == call) c.args.events.now.events ≡ None =
    ap (position (λ (e : Event). e.call == call)) (sym c.events.ensures) ∙ sym c.place_of_call.ensures.place ∙ c.in-None.is in
    absurd (found-none litmus sites c.args.events.now c.args.place site call syncs order h at (c.call_of_site-call.ensures site at) none)

pub returns-in-Some : goal.returns-in-Some
returns-in-Some c = λ litmus syncs order h.
    let sites = c.args.sites.now in
    let site = get_or sites c.args.place other in
    let call = c.call_of_site-call.result in
    let at : slice_get sites c.args.place ≡ Some site = slice_get-get_or sites c.args.place other c.requires.there in
    let found : position (λ (e : Event). e.call == call) c.args.events.now.events ≡ Some c.in-Some.k =
    ap (position (λ (e : Event). e.call == call)) (sym c.events.ensures) ∙ sym c.place_of_call.ensures.place ∙ c.in-Some.is in
    found-site sites c.args.events.now.events c.args.place c.in-Some.k site call at (c.call_of_site-call.ensures site at) found
