use Rattle.rectangle_pack_sections.proofs.Std.{◌≡◌, ◌||◌, Bool, false, refl, sym, ◌∙◌, ap, take, ◌+◌, unwrap_or, option_map, option_copied, is_at, list_any}
use Rattle.rectangle_pack_sections.proofs.Std.{Bor, list_any_more, or-false, take_all}
use Rattle.rectangle_pack_packing.specs.private.Excluded.{are_in, went_to, KeptHomes}
use Rattle.rectangle_pack_packing.proofs.lemmas.packing.Excluded.{excluded-more}
use Rattle.rectangle_pack_packing.proofs.homes.Homes.excluded_bins.Goals.{in-Some+in_ok-insert, in_default}
use Rattle.rectangle_pack_packing.proofs.homes.Homes.excluded_bins.Goals as goal

pub loop-partner-preserved : goal.loop-partner-preserved
loop-partner-preserved g c = λ id.
    let homes = c.args.self.now.bins in
    let t : g.row.K.Denot → Bool = λ p. went_to g.K.Ord.cmp g.B.Ord.cmp homes p id in
    let i = c.loop-partner.partner-index in
    let p = c.partner-item.result in
    let partners = c.partners-partner-items.result.now in
    let more : list_any t (take (i + 1) partners) ≡ (list_any t (take i partners) || t p) =
    list_any_more t partners i p c.loop-partner-test.true ∙ rw (← c.partner-item.is) refl in
    let before = c.loop-partner.invariant id in
    let inside : c.self.inside.bins.entries ≡ homes = ap (λ (h : KeptHomes g.row.K.Denot g.row.B.Denot). h.bins) c.self.view_is in
    elim c.match-get.branch [
      | in-Some+in_ok-insert w ↦
          let bin : Bor g.row.B.Denot = w.in-Some.id.now in
          let here : t p ≡ is_at (g.B.Ord.cmp id) bin.now =
          rw (← inside) (ap (λ f. unwrap_or (option_map (λ b. is_at (g.B.Ord.cmp id) b.now) f) false) (sym w.in-Some.ensures.value)) in
          let key : Bor g.row.B.Denot = record bin { now = id } in
          ap (λ s. are_in g.B.Ord.cmp s.keys id) w.ids-is
          ∙ excluded-more g.met.B.Ord.total c.loop-partner.ids.keys w.insert.new.self.keys bin (list_any t (take i partners)) (t p) id
          (w.in_ok-insert.ensures.updates.0 key) before here ∙ sym more
      | in_default w ↦
          let none : t p ≡ false =
          rw (← inside) (ap (λ f. unwrap_or (option_map (λ b. is_at (g.B.Ord.cmp id) b.now) f) false) (sym c.get.ensures.value ∙ ap option_copied w.in_default.is)) in
          let same : (list_any t (take i partners) || t p) ≡ list_any t (take i partners) = rw none (or-false _) in
          ap (λ s. are_in g.B.Ord.cmp s.keys id) w.ids-is ∙ before ∙ sym same ∙ sym more
    ]

pub returns : goal.returns
returns g c = λ id.
    rw (take_all c.loop-partner.partner-index c.partners-partner-items.result.now c.loop-partner-test.false) at c.loop-partner.invariant id
    ∙ rw (← c.self.view_is) (ap (λ ps. list_any (λ p. went_to g.K.Ord.cmp g.B.Ord.cmp c.self.inside.bins.entries p id) ps) c.partners-partner-items.ensures.listed)
