use Rattle.std.proofs.Common.{◌≡◌, [], ◌∷◌, sym, ◌∙◌, ap, subst}
use Rattle.ca_model.specs.History.{Edit, Del}
use Rattle.ca_test_store.specs.ForeignView.{edit_with}
use Rattle.ca_test_store.specs.Inner.{HasMade}
use Rattle.ca_test_store.proofs.Making.{removed_made}
use Rattle.ca_test_store.proofs.inner.make_one.Goals as goal

pub returns-in-Remove : goal.returns-in-Remove
returns-in-Remove c =
    let edit : Del c.as_slice.result.now ≡ c.args.edit.now = ap Del c.as_slice.ensures.value ∙ sym (ap edit_with c.in-Remove.is) ∙ c.edit.view_is in
    subst (λ (e : Edit). HasMade c.args.objects.now c.remove.new.objects (e ∷ [])) edit
    (removed_made c.args.objects.now c.remove.new.objects c.as_slice.result.now c.remove.result c.remove.new.old.items c.remove.ensures)
