use Rattle.std.proofs.Common.{◌≡◌, ℕ, ◌<◌, List, [], length, get_or, subst, sym, ◌∙◌, arith}
use Rattle.std.proofs.lemmas.List.{get_or_default}
use Rattle.watch_lists.specs.declared.links.Place.{Place}
use Rattle.watch_lists.specs.Links.{Chained, IsChain, Linked, lists_of, nexts, chained_of}
use Rattle.watch_lists.proofs.Chaining.{first-is}
use Rattle.watch_lists.proofs.Placing.{linked}
use Rattle.watch_lists.proofs.links.Chains.first.Goals as goal

chain : (heads : List ℕ) (places : List Place) (v : Chained) → chained_of heads places ≡ v → Linked heads (nexts places) (lists_of heads (nexts places)) → (k link : ℕ) → k < length v.lists → link ≡ get_or heads k link → IsChain (nexts places) link (get_or v.lists k [])
chain heads places v is inv k link kt el =
    let h = linked heads places v is inv in
    let kh : k < length heads = omega (arith, kt, h.len) in
    let Q : ℕ → Type 0 = λ l. IsChain (nexts places) l (get_or v.lists k []) in
    subst Q (sym (el ∙ get_or_default heads k link 0 kh)) (h.chain k kh)

pub returns-then-link-eq0 : goal.returns-then-link-eq0
returns-then-link-eq0 c =
    let ch = chain c.self.inside.heads.items c.self.inside.places.items c.args.self.now c.self.view_is c.self.invariant c.args.k c.index-link.result.now c.requires c.index-link.ensures in
    (first-is (nexts c.self.inside.places.items) c.index-link.result.now (get_or c.args.self.now.lists c.args.k []) ch).0 c.if-link-eq0.true

pub returns-else-link-eq0 : goal.returns-else-link-eq0
returns-else-link-eq0 c =
    let ch = chain c.self.inside.heads.items c.self.inside.places.items c.args.self.now c.self.view_is c.self.invariant c.args.k c.index-link.result.now c.requires c.index-link.ensures in
    (first-is (nexts c.self.inside.places.items) c.index-link.result.now (get_or c.args.self.now.lists c.args.k []) ch).1 c.if-link-eq0.false
