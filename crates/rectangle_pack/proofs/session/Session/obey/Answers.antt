use Rattle.rectangle_pack.proofs.session.Session.obey.Goals as goal
