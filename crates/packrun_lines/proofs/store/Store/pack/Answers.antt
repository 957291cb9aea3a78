use Rattle.std.proofs.Common.{refl}
use Rattle.rectangle_pack_sections.proofs.lemmas.cuts.Choices.{smallest_more}
use Rattle.packrun_lines.specs.Store.{Store}
use Rattle.packrun_lines.proofs.lemmas.Obeyed.{IsPackObeyed-done, IsPackObeyed-refused}
use Rattle.packrun_lines.proofs.lemmas.Stores.{PacksBoxes-done, PacksBoxes-refused, made-few}
use Rattle.packrun_lines.proofs.store.Store.pack.Goals as goal

pub last_placements-requires : goal.last_placements-requires
last_placements-requires g c =
    let old : Store = record { session = c.self.inside.session; boxes = c.self.inside.rects } in
    made-few old c.in-Ok.packed c.forget_rects.new.self
    (PacksBoxes-done _ (λ a b. refl) (λ a b. refl) (λ a b. refl) (λ a b. refl) _ old c.in-Ok.packed _ _ c.in-Ok.ensures.packed
    (record {
      rate = λ size rate says. says.says.1;
      prefer = λ a b r says. (says.first_three, says.second_three, smallest_more _ _ (λ size rate rates. rates.1) a b r says.says.2);
    }) c.forget_rects.ensures.session c.forget_rects.ensures.boxes)

pub returns-in-Ok : goal.returns-in-Ok
returns-in-Ok g c =
    let old : Store = record { session = c.self.inside.session; boxes = c.self.inside.rects } in
    record {
      packed = rw (← c.self.view_is)
          (IsPackObeyed-done old c.forget_rects.new.self _ _ c.print_packed.result c.in-Ok.packed
          (PacksBoxes-done _ (λ a b. refl) (λ a b. refl) (λ a b. refl) (λ a b. refl) _ old c.in-Ok.packed _ _ c.in-Ok.ensures.packed
          (record {
            rate = λ size rate says. says.says.1;
            prefer = λ a b r says. (says.first_three, says.second_three, smallest_more _ _ (λ size rate rates. rates.1) a b r says.says.2);
          }) c.forget_rects.ensures.session c.forget_rects.ensures.boxes)
          c.last_placements.result.now c.last_placements.ensures c.print_packed.ensures);
    }

pub returns-in-Err : goal.returns-in-Err
returns-in-Err g c =
    let old : Store = record { session = c.self.inside.session; boxes = c.self.inside.rects } in
    record {
      packed = rw (← c.self.view_is)
          (IsPackObeyed-refused old _ _ _ c.refuse.result c.in-Err.error
          (PacksBoxes-refused _ (λ a b. refl) (λ a b. refl) (λ a b. refl) (λ a b. refl) _ old c.in-Err.error _ c.in-Err.ensures.packed
          (record {
            rate = λ size rate says. says.says.1;
            prefer = λ a b r says. (says.first_three, says.second_three, smallest_more _ _ (λ size rate rates. rates.1) a b r says.says.2);
          })) c.refuse.ensures);
    }
