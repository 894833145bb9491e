use Rattle.std.proofs.Common.{◌∙◌}
use Rattle.flat_proofs.proofs.FlatFacts.{start_spacious, room_somewhere, few_sorts, loose_depths, pulled_depths, all_stand, loose_form, loosened_leads}
use Rattle.flat_proofs.proofs.flats.loosened.Goals as goal

pub out_of-requires-clause-spacious : goal.out_of-requires-clause-spacious
out_of-requires-clause-spacious c = start_spacious c.args.norm.now c.requires.size c.requires.sorted

pub pull-requires-clause-room : goal.pull-requires-clause-room
pull-requires-clause-room c = room_somewhere c.args.norm.now c.requires.size c.requires.sorted

pub turned-requires-clause-few : goal.turned-requires-clause-few
turned-requires-clause-few c = few_sorts c.args.norm.now c.in_ok-flat.flat.body c.in_ok-pulled.field-0.pulled.sorts c.requires.size c.in_ok-pulled.ensures.sorts

pub turned-requires-clause-own : goal.turned-requires-clause-own
turned-requires-clause-own c = loose_depths c.args.norm.now c.in_ok-pulled.field-0.pulled.body c.in_ok-pulled.field-0.pulled.sorts c.requires.size c.in_ok-pulled.ensures.sorts c.in_ok-pulled.ensures.body

pub turned-requires-clause-depth : goal.turned-requires-clause-depth
turned-requires-clause-depth c = pulled_depths c.args.norm.now c.in_ok-flat.flat.body c.in_ok-pulled.field-0.pulled.sorts c.requires.size c.in_ok-pulled.ensures.sorts c.in_ok-flat.ensures.body

pub turned-requires-clause-stand : goal.turned-requires-clause-stand
turned-requires-clause-stand c = all_stand c.args.norm.now c.in_ok-flat.flat.body c.in_ok-pulled.field-0.pulled.sorts c.requires.size c.in_ok-pulled.ensures.sorts c.requires.normal c.in_ok-flat.ensures.body

pub returns-clause-form : goal.returns-clause-form
returns-clause-form c = loose_form c.args.norm.now c.in_ok-pulled.field-0.pulled.sorts c.in_ok-pulled.field-0.pulled.body c.in_ok-flat.flat.body c.in_ok-form.field-0.form c.in_ok-pulled.ensures.sorts c.in_ok-pulled.ensures.body c.in_ok-flat.ensures.body c.in_ok-form.ensures.form

pub returns-clause-part : goal.returns-clause-part
returns-clause-part c =
    loosened_leads c.args.norm.now c.in_ok-pulled.field-0.pulled.sorts c.in_ok-pulled.field-0.pulled.body c.in_ok-flat.flat.body c.in_ok-form.field-0.form c.in_ok-pulled.ensures.sorts c.in_ok-pulled.ensures.body c.in_ok-flat.ensures.body c.args.forth c.get.result.now c.in_ok-pulled.field-0.part c.in_ok-form.field-0.part c.in_ok-part.part
    c.requires.size c.in_ok-form.ensures.form c.get.ensures c.in_ok-pulled.ensures.part c.in_ok-form.ensures.part c.in_ok-part.ensures
