-- Syncs behind the one call of a test, which is no transaction's.
use Rattle.std.proofs.Common.{◌≡◌, ◌&&◌, false, IsTrue, List, [], ◌∷◌, ℕ, All, take, refl, sym, ap, subst}
use Rattle.std.proofs.lemmas.List.Elements.{All-weaker}
use Rattle.litmus_syntax.specs.declared.call.Call.{Call}
use Rattle.litmus_syntax.specs.declared.call.Call.TheVariants.{Create, Sync}
use Rattle.litmus_syntax.specs.declared.call.Step.{Step}
use Rattle.litmus_syntax.specs.declared.site.Site.{Site}
use Rattle.litmus_syntax.specs.CallKinds.{is_sync}
use Rattle.litmus_syntax.specs.Forms.{is_formed_call}
use Rattle.litmus_syntax.specs.Sites.{AreSyncs, StandOutside}
use Rattle.litmus_syntax.specs.Transactions.{calls_of, is_open}

abbrev pub sync_site : Site
sync_site = record { after = 1; call = Sync }

pub are_syncs : (sites : List Site) → All (λ site. site ≡ sync_site) sites → AreSyncs sites
are_syncs sites all =
    All-weaker (λ (s : Site). s ≡ sync_site) (λ (s : Site). IsTrue (is_sync s.call && is_formed_call s.call))
    (λ s e. subst (λ (x : Site). IsTrue (is_sync x.call && is_formed_call x.call)) (sym e) refl) sites all

pub stand_outside : (body : List Step) (path : List (List ℕ)) → calls_of body ≡ Create path ∷ [] → (sites : List Site) → All (λ site. site ≡ sync_site) sites
    → StandOutside body sites
stand_outside body path one sites all =
    let outside : is_open (take 1 (calls_of body)) ≡ false = ap (λ (calls : List Call). is_open (take 1 calls)) one in
    All-weaker (λ (s : Site). s ≡ sync_site) (λ (s : Site). is_open (take s.after (calls_of body)) ≡ false)
    (λ s e. subst (λ (x : Site). is_open (take x.after (calls_of body)) ≡ false) (sym e) outside) sites all
