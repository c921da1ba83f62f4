use Rattle.typst_session.specs.Sessions.{root_of}
use Rattle.typst_session.proofs.OwnPlaces.{range_told}
use Rattle.typst_session.proofs.session.Session.range.Goals as goal

pub returns-in-Ok : goal.returns-in-Ok
returns-in-Ok c =
    range_told (root_of c.args.self.now.held) c.args.path.now c.in-Ok.node c.range.result c.in-Ok.ensures.ok c.range.ensures.start c.range.ensures.end
