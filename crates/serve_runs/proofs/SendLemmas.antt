-- A bay can be sent to a thread, since all that it holds can. A search within generic code tries too many facts of its traits, so it is
-- done here, over the laws of each type that a bay holds.
use denote.RattleType.{RattleType}
use denote.Param.Send.{IsSend, IsSync, sendable}
use Rattle.atomic_table.proofs.owned.Table.TheSendSync as Table
use Rattle.atomic_table.proofs.send_lease.SendLease.TheSendSync as SendLease
use Rattle.atomic_table.proofs.shared.Seat.TheSendSync as Seat
use Rattle.atomic_table.proofs.shared.Shared.TheSendSync as Shared
use Rattle.crossbeam_queue.proofs.array_queue.Doing.TheSendSync as Doing
use Rattle.crossbeam_queue.proofs.array_queue.Slotted.TheSendSync as Slotted
use Rattle.crossbeam_queue.proofs.array_queue.Stage.TheSendSync as Stage
use Rattle.crossbeam_queue.proofs.array_queue.Turns.TheSendSync as Turns
use Rattle.any_lane.proofs.lane.AnyLane.TheSendSync as AnyLane
use Rattle.matchit.proofs.route.Route.TheSendSync as Route
use Rattle.policy_rules.proofs.omit.Omit.TheSendSync as Omit
use Rattle.policy_rules.proofs.policy.Policy.TheSendSync as Policy
use Rattle.policy_rules.proofs.policy.Rules.TheSendSync as Rules
use Rattle.policy_rules.proofs.rule.GroupResources.TheSendSync as GroupResources
use Rattle.policy_rules.proofs.rule.Resources.TheSendSync as Resources
use Rattle.policy_rules.proofs.rule.Rule.TheSendSync as Rule
use Rattle.service_endpoints.proofs.endpoint.Endpoint.TheSendSync as Endpoint
use Rattle.service_endpoints.proofs.endpoints.Endpoints.TheSendSync as Endpoints
use Rattle.slab.proofs.Entry.TheSendSync as Entry
use Rattle.slab.proofs.Slab.TheSendSync as Slab
use Rattle.token_users.proofs.record.Record.TheSendSync as Record
use Rattle.token_users.proofs.tokens.Tokens.TheSendSync as Tokens
use Rattle.audit_core.proofs.settings.Settings.TheSendSync as Settings
use Rattle.audit_core.proofs.sinks.SinkMode.TheSendSync as SinkMode
use Rattle.bay_runs.proofs.bay_stop.BayStop.TheSendSync as BayStop
use Rattle.bay_runs.proofs.end_counts.EndCounts.TheSendSync as EndCounts
use Rattle.event_offers.proofs.lanes.Lanes.TheSendSync as Lanes
use Rattle.front_base.proofs.address.Address.TheSendSync as Address
use Rattle.front_base.proofs.level.Level.TheSendSync as Level
use Rattle.front_base.proofs.line.Line.TheSendSync as Line
use Rattle.front_base.proofs.text.Bytes.TheSendSync as Bytes
use Rattle.front_base.proofs.text.Text.TheSendSync as Text
use Rattle.front_base.proofs.text.Texts.TheSendSync as Texts
use Rattle.front_base.proofs.user.User.TheSendSync as User
use Rattle.local_replies.proofs.kind.Kind.TheSendSync as Kind
use Rattle.serve_roles.proofs.ready_bay.ReadyBay.TheSendSync as ReadyBay
use Rattle.session_core.proofs.bay.Bay.TheSendSync as Bay
use Rattle.shared_queue.proofs.lane.QueueLane.TheSendSync as QueueLane
use Rattle.shared_queue.proofs.rule.LinesKept.TheSendSync as LinesKept
use Rattle.shared_queue.proofs.views.EndedLane.TheSendSync as EndedLane
use Rattle.shared_queue.proofs.views.View.TheSendSync as View
use Rattle.std.below.std_collections.proofs.btree.node.Node.TheSendSync as Node
use Rattle.std.below.std_collections.proofs.btree.node.root.Root.TheSendSync as Root
use Rattle.std.below.std_collections.proofs.btree.tree.Tree.TheSendSync as Tree
use Rattle.std.below.std_collections.proofs.linked_list.nodes.Nodes.TheSendSync as Nodes
use Rattle.std.proofs.alloc.Global.TheSendSync as Global
use Rattle.std.proofs.collections.BTreeMap.TheSendSync as BTreeMap
use Rattle.std.proofs.collections.LinkedList.TheSendSync as LinkedList
use Rattle.std.proofs.marker.PhantomData.TheSendSync as PhantomData
use Rattle.std.proofs.option.Option.TheSendSync as Option
use Rattle.std.proofs.rt.Memory.TheSendSync as Memory
use Rattle.std.proofs.string.String.TheSendSync as String
use Rattle.std.proofs.sync.Arc.TheSendSync as Arc
use Rattle.std.proofs.vec.Vec.TheSendSync as Vec
use Rattle.truncate_backend.proofs.own.OwnLane.TheSendSync as OwnLane
use Rattle.std.proofs.Crossing.{crosses}
use Rattle.std.proofs.MapsCrossing as maps
use Rattle.matchit.proofs.tree.Node.TheLaws.TheKnot as knot
use Rattle.serve_roles.specs.contracts.bay_role.BayRole as role

pub role_send : (R L W H T K Y D : RattleType) → IsSend R → IsSend L → IsSend W → IsSend H → IsSend T → IsSync T → IsSend K → IsSend Y → IsSend D
    → IsSend (role.the_row R L W H T K Y D)
role_send R L W H T K Y D r l w h t s k y d =
    search (
      Table.the_field_send,
      Table.the_send,
      Table.the_field_sync,
      Table.the_sync,
      SendLease.the_send,
      SendLease.the_sync,
      Seat.the_send,
      Shared.the_send,
      Shared.the_sync,
      Doing.the_field_send,
      Doing.the_send,
      Doing.the_field_sync,
      Doing.the_sync,
      Slotted.the_field_send,
      Slotted.the_send,
      Slotted.the_field_sync,
      Slotted.the_sync,
      Stage.the_field_send,
      Stage.the_send,
      Stage.the_field_sync,
      Stage.the_sync,
      Turns.the_field_send,
      Turns.the_send,
      Turns.the_field_sync,
      Turns.the_sync,
      AnyLane.the_field_send,
      AnyLane.the_send,
      Route.the_field_send,
      Route.the_send,
      Route.the_field_sync,
      Route.the_sync,
      Omit.the_field_send,
      Omit.the_send,
      Omit.the_field_sync,
      Omit.the_sync,
      Policy.the_field_send,
      Policy.the_send,
      Policy.the_field_sync,
      Policy.the_sync,
      Rules.the_send,
      Rules.the_sync,
      GroupResources.the_field_send,
      GroupResources.the_send,
      GroupResources.the_field_sync,
      GroupResources.the_sync,
      Resources.the_send,
      Resources.the_sync,
      Rule.the_field_send,
      Rule.the_send,
      Rule.the_field_sync,
      Rule.the_sync,
      Endpoint.the_field_send,
      Endpoint.the_send,
      Endpoint.the_field_sync,
      Endpoint.the_sync,
      Endpoints.the_send,
      Endpoints.the_sync,
      Entry.the_field_send,
      Entry.the_send,
      Entry.the_field_sync,
      Entry.the_sync,
      Slab.the_send,
      Slab.the_sync,
      Record.the_field_send,
      Record.the_send,
      Record.the_field_sync,
      Record.the_sync,
      Tokens.the_send,
      Tokens.the_sync,
      Settings.the_field_send,
      Settings.the_send,
      Settings.the_field_sync,
      Settings.the_sync,
      SinkMode.the_field_send,
      SinkMode.the_send,
      SinkMode.the_field_sync,
      SinkMode.the_sync,
      BayStop.the_field_send,
      BayStop.the_send,
      BayStop.the_field_sync,
      BayStop.the_sync,
      EndCounts.the_field_send,
      EndCounts.the_send,
      EndCounts.the_field_sync,
      EndCounts.the_sync,
      Lanes.the_field_send,
      Lanes.the_send,
      Lanes.the_field_sync,
      Lanes.the_sync,
      Address.the_field_send,
      Address.the_send,
      Address.the_field_sync,
      Address.the_sync,
      Level.the_field_send,
      Level.the_send,
      Level.the_field_sync,
      Level.the_sync,
      Line.the_send,
      Line.the_sync,
      Bytes.the_send,
      Bytes.the_sync,
      Text.the_send,
      Text.the_sync,
      Texts.the_send,
      Texts.the_sync,
      User.the_field_send,
      User.the_send,
      User.the_field_sync,
      User.the_sync,
      Kind.the_field_send,
      Kind.the_send,
      Kind.the_field_sync,
      Kind.the_sync,
      ReadyBay.the_field_send,
      ReadyBay.the_send,
      Bay.the_field_send,
      Bay.the_send,
      Bay.the_field_sync,
      Bay.the_sync,
      QueueLane.the_field_send,
      QueueLane.the_send,
      LinesKept.the_field_send,
      LinesKept.the_send,
      LinesKept.the_field_sync,
      LinesKept.the_sync,
      EndedLane.the_field_send,
      EndedLane.the_send,
      EndedLane.the_field_sync,
      EndedLane.the_sync,
      View.the_field_send,
      View.the_send,
      View.the_field_sync,
      View.the_sync,
      Node.the_send,
      Node.the_sync,
      Root.the_field_send,
      Root.the_send,
      Root.the_field_sync,
      Root.the_sync,
      Tree.the_field_send,
      Tree.the_send,
      Tree.the_field_sync,
      Tree.the_sync,
      Nodes.the_send,
      Nodes.the_sync,
      Global.the_field_send,
      Global.the_send,
      Global.the_field_sync,
      Global.the_sync,
      BTreeMap.the_send,
      BTreeMap.the_sync,
      LinkedList.the_send,
      LinkedList.the_sync,
      PhantomData.the_field_send,
      PhantomData.the_send,
      PhantomData.the_field_sync,
      PhantomData.the_sync,
      Option.the_field_send,
      Option.the_send,
      Option.the_field_sync,
      Option.the_sync,
      Memory.the_field_send,
      Memory.the_send,
      Memory.the_field_sync,
      Memory.the_sync,
      String.the_field_send,
      String.the_send,
      String.the_field_sync,
      String.the_sync,
      Arc.the_send,
      Arc.the_sync,
      Vec.the_send,
      Vec.the_sync,
      OwnLane.the_field_send,
      OwnLane.the_send,
      OwnLane.the_field_sync,
      OwnLane.the_sync,
      maps.crosses,
      crosses,
      knot.crosses,
      sendable,
    ) depth 60 fits 20000
