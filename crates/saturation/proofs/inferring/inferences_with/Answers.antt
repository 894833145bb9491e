use Rattle.std.proofs.Common.{◌∙◌, ◌++◌, ◌≡◌, sym, subst, List, Bool, true, false, length}
use Rattle.std.proofs.lemmas.List.{length-map}
use Rattle.clause_form.specs.declared.clause.Lit.{Lit}
use Rattle.saturation.specs.declared.member.Member.{Member}
use Rattle.saturation.specs.Members.{clauses_of}
use Rattle.saturation.specs.code.Marked.{IsMarked}
use Rattle.saturation.specs.code.Offers.{atom_offers, side_offers, spot_offers}
use Rattle.saturation.proofs.Offering.{all_offered}
use Rattle.saturation.proofs.MadeWith.{made_with}
use Rattle.saturation.proofs.inferring.inferences_with.Goals as goal

pub returns : goal.returns
returns g c =
    let lits = c.args.last.now.lits in
    let used = c.args.used.now in
    let literals = atom_offers lits used.lits in
    let terms = side_offers lits used.sides ++ spot_offers lits used.spots in
    let whole = g.I.Partners.is_whole c.args.literals.now in
    let les = g.I.Partners.entries c.args.literals.now in
    let tes = g.I.Partners.entries c.args.terms.now in
    let many = length (clauses_of c.args.list.now) in
    let count : many ≡ length c.args.list.now = length-map c.args.list.now (λ (m : Member). m.clause) in
    let into : IsMarked whole many true literals terms les tes c.as_slice.result.now =
    subst (λ k. IsMarked whole k true literals terms les tes c.as_slice.result.now) (sym count)
    (subst (λ (ms : List Bool). IsMarked whole (length c.args.list.now) true literals terms les tes ms) (sym c.as_slice.ensures)
    (subst (λ (ls : List Lit). IsMarked whole (length c.args.list.now) true (atom_offers ls used.lits) (side_offers ls used.sides ++ spot_offers ls used.spots) les tes c.in_ok-into.into) c.as_slice-lits.ensures c.in_ok-into.ensures)) in
    let from : IsMarked whole many false literals terms les tes c.as_slice-2.result.now =
    subst (λ k. IsMarked whole k false literals terms les tes c.as_slice-2.result.now) (sym count)
    (subst (λ (ms : List Bool). IsMarked whole (length c.args.list.now) false literals terms les tes ms) (sym c.as_slice-2.ensures)
    (subst (λ (ls : List Lit). IsMarked whole (length c.args.list.now) false (atom_offers ls used.lits) (side_offers ls used.sides ++ spot_offers ls used.spots) les tes c.in_ok-from.from) c.as_slice-lits.ensures c.in_ok-from.ensures)) in
    made_with c.args.signature.now whole (clauses_of c.args.list.now) c.args.last.now c.in_ok-number.field-0 literals terms les tes c.as_slice.result.now c.as_slice-2.result.now c.new-members.result
    c.add_alone.new.members c.add_pair.new.members c.add_marked.new.members (c.in_ok-number.ensures ∙ sym count) c.new-members.ensures c.in_ok-add_alone.ensures c.in_ok-add_pair.ensures c.in_ok-add_marked.ensures into from
    (all_offered lits used c.requires.used) c.requires.entered
