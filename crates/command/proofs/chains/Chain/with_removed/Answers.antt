use Rattle.std.proofs.Common.{◌≡◌, ◌-◌, Some, length, take, set, sym, ap, ◌∙◌, length-set, arith}
use Rattle.std.proofs.lemmas.Slice.{put_mid-rotated}
use borrow.Rule.Slice.PartMut.{put_mid}
use Rattle.command.specs.Members.{Membership, place_of, removed}
use Rattle.command.specs.Places.{IsChain, membership, counted}
use Rattle.command.specs.declared.chains.Chain.TheInside.{Inside}
use Rattle.command.proofs.Places.{after_removal}
use Rattle.command.proofs.Removal.{found, missed, removed_not}
use Rattle.command.proofs.chains.Chain.with_removed.Goals as goal

pub returns-in_default : goal.returns-in_default
returns-in_default c =
    c.self.view_is
    ∙ sym (removed_not c.args.self.now c.args.a
    (missed c.args.a c.args.self.now.members
    (ap (place_of c.args.a) (sym c.members.ensures.members) ∙ sym c.place_of.ensures ∙ c.in_default.is)))

-- the chain that is left
abbrev left : (c : goal.After-result-2-1) → Inside
left c =
    let at = c.in-Some.at in record {
      places = put_mid at (7 - at) (set c.self.inside.places at 0) c.rotate_left.new.self;
      count = c.self.inside.count - 1;
      ever = c.self.inside.ever;
    }

is_left : (c : goal.After-result-2-1) → IsChain (left c) × (membership (left c) ≡ removed c.args.a (membership c.self.inside))
is_left c =
    let me = c.self.inside in
    let at = c.in-Some.at in
    let l : length (set me.places at 0) ≡ 7 = length-set me.places at 0 ∙ c.self.told in
    let e = ap (λ (m : Membership). m.members) c.self.view_is in
    let p : place_of c.args.a (take me.count me.places) ≡ Some at =
    ap (place_of c.args.a) (e ∙ sym c.members.ensures.members) ∙ sym c.place_of.ensures ∙ c.in-Some.is in
    let f = found c.args.a at (take me.count me.places) p in
    let n = counted me.count me.places c.self.invariant.few c.self.invariant.rest in
    after_removal me c.self.invariant c.args.a at _ (omega arith) p
    (put_mid-rotated at (7 - at) (set me.places at 0) c.rotate_left.new.self 0 (omega arith) (omega arith)
    c.rotate_left.ensures.after)

pub invariant_of-result-2 : goal.invariant_of-result-2
invariant_of-result-2 c = (is_left c).0

pub returns : goal.returns
returns c = (is_left c).1 ∙ ap (removed c.args.a) c.self.view_is
