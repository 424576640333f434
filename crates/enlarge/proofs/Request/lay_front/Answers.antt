-- `enlarge::Request::lay_front` meets its contract: five pieces one after the other are the grown table without its new legs. Assumes nothing.
use Rattle.enlarge.proofs.Front.{LegsLeft, legs_left, front_laid}
use Rattle.enlarge.proofs.Request.lay_front.Goals.{After-copied-at_legs}
use Rattle.enlarge.proofs.Request.lay_front.Goals as goal

-- All but the legs is laid.
abbrev left : After-copied-at_legs → LegsLeft
left c =
    legs_left
    c.args.self.now.wanted
    c.requires
    c.copied-at_links.ensures
    c.link_part.ensures
    c.copied-at_streams.ensures
    c.stream_part.ensures
    c.copied-at_new.ensures
    c.copied-at_legs.ensures

pub returns : goal.returns
returns c = let s : LegsLeft = left (goal.at.returns c).After-copied-at_legs in search (front_laid s)
