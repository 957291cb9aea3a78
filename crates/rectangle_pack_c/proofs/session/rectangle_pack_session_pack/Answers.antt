use Rattle.rectangle_pack_c.proofs.Std.{◌≡◌, ◌⊎◌, inl, inr, ◌∙◌, ◌≢◌, ℕ, List, length, [], Option, arith}
use Rattle.rectangle_pack.specs.Session.{State}
use Rattle.rectangle_pack_c.specs.declared.RpBox.{RpBox}
use Rattle.rectangle_pack_c.specs.declared.collection.RpCollection.{RpCollection}
use Rattle.rectangle_pack_c.specs.Collections.{all_boxes, fault_of}
use Rattle.rectangle_pack_c.specs.Sessions.{ChangesAs, PacksCollection}
use Rattle.rectangle_pack_c.proofs.FaultLemmas.{only_boxes, only_lengths}
use Rattle.rectangle_pack_c.proofs.SessionLemmas.{changes_by_volume}
use Rattle.rectangle_pack_c.proofs.session.rectangle_pack_session_pack.Goals as goal

pub returns-clause-packed : goal.returns-clause-packed
returns-clause-packed c =
    let own = c.of-collection in
    let answer = c.rectangle_pack_session_pack_collection in
    by own.result c.args.boxes.now (length c.args.placements.now) answer.new.chosen c.args.session.now.state answer.result answer.new.session.state
    (only_boxes own.result c.args.boxes.now own.ensures.boxes own.ensures.members) own.ensures.exclusions (λ some. (answer.ensures.faults some).0)
    answer.ensures.packed (only_lengths own.result (length c.args.placements.now) own.ensures.members own.ensures.exclusions)
  where
    by : (own : RpCollection) (boxes : List RpBox) (places chosen : ℕ) (old : Option (State ℕ ℕ)) (status : ℕ) (new : Option (State ℕ ℕ))
        → all_boxes own ≡ boxes → own.exclusions.now ≡ []
        → (fault_of own 0 places ≢ 0 → status ≡ fault_of own 0 places)
        → (fault_of own 0 places ≡ 0 → ChangesAs (PacksCollection 0 (all_boxes own) own.exclusions.now chosen) old status new)
        → (fault_of own 0 places ≡ 0) ⊎ (fault_of own 0 places ≡ 3) → status ≢ 3
        → ChangesAs (PacksCollection 0 boxes [] 0) old status new
    by own boxes places chosen old status new are none faults packed (inl right) other =
        changes_by_volume own boxes chosen old status new are none (packed right)
    by own boxes places chosen old status new are none faults packed (inr wrong) other =
        absurd (other (faults (λ right. some wrong right) ∙ wrong))
      where
        some : fault_of own 0 places ≡ 3 → fault_of own 0 places ≢ 0
        some e f = absurd (omega (arith, e, f))
