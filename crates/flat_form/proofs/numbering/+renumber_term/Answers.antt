use Rattle.std.proofs.Common.{rules, arith, ◌+◌, length, map}
use Rattle.fof_terms.specs.Lift.{greatest, lift_term_reach}
use Rattle.fof_terms.proofs.LiftFacts.{lift_equations}
use Rattle.fof_terms.specs.declared.term.Term.TheViews.{the_lemmas}
use Rattle.flat_form.proofs.Rooms.{room_less, each_reach}
use Rattle.flat_form.proofs.numbering.+renumber_term.Goals as goal

pub renumber_term-renumber_terms-requires : goal.renumber_term-renumber_terms-requires
renumber_term-renumber_terms-requires t c =
    let n = length c.args.near.now in (
      search (rules, the_lemmas),
      (
        c.requires.near,
        room_less c.args.outside n c.args.depth c.args.depth (lift_term_reach c.args.outside (n + c.args.depth) c.args.term.now) (greatest (map (lift_term_reach c.args.outside (n + c.args.depth)) c.as_slice.result.now)) c.requires.room (omega arith)
            (grind (arith, lift_equations)),
      ),
    )

pub renumber_terms-renumber_term-requires : goal.renumber_terms-renumber_term-requires
renumber_terms-renumber_term-requires t c =
    let n = length c.args.near.now in
    let rooms = each_reach c.args.outside n c.args.depth (lift_term_reach c.args.outside (n + c.args.depth)) c.args.terms.now c.requires.room in
    (search (rules, the_lemmas), (c.requires.near, search (rules, rooms)))
