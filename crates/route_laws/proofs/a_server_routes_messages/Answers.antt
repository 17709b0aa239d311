use Rattle.route_laws.proofs.Routed.{routes}
use Rattle.route_laws.proofs.a_server_routes_messages.Goals as goal

pub returns : goal.returns
returns g c = λ given fan fan' output output' result text good serves. routes (record {
  targets = c.what_a_target_was_sent_is_a_front.ensures;
  client = c.what_the_client_was_sent_is_a_front.ensures;
  paid = c.a_router_at_rest_has_sent_all_that_is_due.ensures;
  says = c.an_outcome_says_what_is_so.ensures;
}) given text _ result good serves
