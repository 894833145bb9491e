use Rattle.std.proofs.Common.{◌++◌, ◌∙◌, length, map, ap, refl}
use Rattle.std.proofs.lemmas.Option.{slice_get_read, slice_get_past}
use Rattle.std.proofs.lemmas.Result.{on_ok_weaker}
use Rattle.clause_form.specs.Images.{image}
use Rattle.clause_form.proofs.ImagesFacts.{image-App}
use Rattle.packed_clauses.specs.Instances.{given}
use Rattle.packed_clauses.specs.code.Spelling.{spelled_term}
use Rattle.packed_clauses.proofs.Spelled.{app_written}
use Rattle.packed_clauses.proofs.Imaged.{given_image, no_image}
use Rattle.packed_clauses.proofs.imaging.+write_twice.Goals as goal

pub write_twice-returns-in-Some : goal.write_twice-returns-in-Some
write_twice-returns-in-Some t c =
    on_ok_weaker c.write_image.result
    (λ e. e ∙ ap (λ u. c.args.bytes.now ++ spelled_term (image (given c.args.last.now) u)) (given_image c.args.images.now c.args.term.now c.in-Var.variable c.in-Some.image.now c.in-Var.is (slice_get_read c.args.images.now (length c.args.images.now) c.in-Var.variable c.in-Some.image.now refl c.in-Some.ensures.lookup.3.0 c.in-Some.ensures.lookup.1)))
    c.write_image.ensures

pub write_twice-returns-in-None : goal.write_twice-returns-in-None
write_twice-returns-in-None t c =
    on_ok_weaker c.write_image-in-None.result
    (λ e. e ∙ ap (λ u. c.args.bytes.now ++ spelled_term (image (given c.args.last.now) u)) (no_image c.args.images.now c.args.term.now c.in-Var.variable c.in-Var.is (slice_get_past c.args.images.now c.in-Var.variable c.in-None.ensures.lookup.3)))
    c.write_image-in-None.ensures

pub write_twice-returns-in_ok-write_all_twice-in-App : goal.write_twice-returns-in_ok-write_all_twice-in-App
write_twice-returns-in_ok-write_all_twice-in-App t c =
    let s = given c.args.images.now in
    let r = given c.args.last.now in
    on_ok_weaker c.write_piece-in-App.result
    (app_written (image r (image s c.args.term.now)) c.in-App.symbol (map (image r) (map (image s) c.in-App.args)) (map (image r) (map (image s) c.as_slice.result.now)) c.args.bytes.now c.write_piece.new.bytes c.write_all_twice.new.bytes c.write_piece-in-App.new.bytes
    (ap (image r) (ap (image s) c.in-App.is ∙ image-App s c.in-App.symbol c.in-App.args) ∙ image-App r c.in-App.symbol (map (image s) c.in-App.args)) (ap (λ ts. map (image r) (map (image s) ts)) c.as_slice.ensures) c.in_ok-write_piece-in-App.ensures c.in_ok-write_all_twice-in-App.ensures)
    c.write_piece-in-App.ensures
