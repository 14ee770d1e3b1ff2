use Rattle.wi_netjson.proofs.LineFeeds.{network_fed}
use Rattle.wi_netjson.proofs.laws.a_line_feed_changes_nothing.Goals as goal

pub returns : goal.returns
returns c = network_fed
