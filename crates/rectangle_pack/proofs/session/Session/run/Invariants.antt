use Rattle.rectangle_pack_sections.proofs.Std.{take, ◌+◌, ◌≤◌, ◌-◌, length, vec_len, vec_capacity}
use Rattle.rectangle_pack_sections.specs.contracts.group.GroupOrd.TheImpl.{ghosts}
use Rattle.rectangle_pack_sections.specs.Closures.{answers}
use Rattle.rectangle_pack.specs.Session.{IsRun, IsSession}
use Rattle.rectangle_pack_packing.specs.Packing.{rules_by}
use Rattle.rectangle_pack.specs.Promise.{KeepsPromise}
use Rattle.rectangle_pack.proofs.session.Session.run.Given as goal

abbrev pub invariant-loop-command : goal.invariant-loop-command
invariant-loop-command g l = record {
  ran : IsRun (KeepsPromise
      (ghosts g.row.GroupId g.row.Id g.GroupId.Ord g.GroupId.Ord-dict g.GroupId.Eq g.GroupId.Eq-dict g.GroupId.PartialEq g.GroupId.PartialEq-dict
      g.GroupId.PartialOrd g.GroupId.PartialOrd-dict g.Id.Ord g.Id.Ord-dict g.Id.Eq g.Id.Eq-dict g.Id.PartialEq g.Id.PartialEq-dict
      g.Id.PartialOrd g.Id.PartialOrd-dict).cmp
      (rules_by g.Id.Ord.cmp g.BinId.Ord.cmp (answers g.H.Fn g.C.Fn l.heuristic l.comparison))) (take l.command-index l.commands)
      l.fn.self l.replies.items l.self;
  always : IsSession g.BinId.Ord.cmp l.self;
  room : vec_len l.replies + (length l.commands - l.command-index) ≤ vec_capacity l.replies;
}
